-- The pass over the bytes is the run of the grammar's machine.
use Prim.Native.Nat.{ℕ, suc, ◌+◌, ◌<◌, ◌≤◌}
use native.Mathlib.Numerals.{add-one}
use native.Mathlib.Omega.{arith}
use mathlib.Core.Path.{◌≡◌, refl, ap, sym, subst, ◌∙◌}
use mathlib.Core.Bool.{Bool, true, false, ◌||◌, or-true}
use mathlib.Core.List.{List, [], ◌∷◌}
use lib.Dec.{eqb}
use lib.ListN.{length, drop, get_or, drop_of_length-le}
use lib.Seq.{drop-cons}
use borrow.Author.Tests.{le-leb, lt-leb, eq-eqb, ne_eqb}
use Rattle.meaning.specs.Types.{loose, Ty, base, variant}
use Rattle.meaning.specs.Signature.{code_tok, nest, all_nest, Tok, is_base, is_arr, is_var, is_open, is_close, is_curl, is_uncurl, is_bad, toks, find, Stack, floor, open0, open1, in_arr, need_key, need_val, need_end, Step, to, bad, put, put_base, step, run, finish, types, refused, parse}
use Rattle.meaning.specs.ReadValue.{counted_of, check_signature}
use Rattle.meaning.specs.Faults.{refusal}
use Rattle.meaning.specs.declared.Fault.{Fault}
use Rattle.meaning.specs.declared.Fault.TheVariants.{InvalidSignature, EmptySignature, SignatureTooLong, NestingTooDeep}
use Rattle.std.specs.Prelude.{Result, Ok, Err}
use Rattle.meaning.specs.declared.Refusal.{Refusal}
use Rattle.types.proofs.Rule.{passes, passed}
use Rattle.signature.specs.declared.State.{State}
use Rattle.signature.specs.declared.Mark.{Mark}
use Rattle.signature.specs.declared.Mark.TheVariants.{Floor}
use Rattle.signature.specs.Codes.{base_tok}
use Rattle.signature.specs.Marks.{height, whole_in, fine_in, Held, structs_in, arrays_in, Follows, After}
use Rattle.signature.proofs.MarkLaws.{Handler, by-mark, at-floor}
use Rattle.signature.proofs.CodeLaws.{same, same-is}

-- what holds where i bytes of s are read: the rest of the run is the whole run
pub record Going (s : List ℕ) (m : List Mark) (o : State) (i : ℕ) : Type 0 where
  pub stack : Stack
  pub follows : Follows stack m o
  pub left : run (drop i s) stack ≡ run s (floor [])
  pub small : o.top + o.types ≤ i
  pub within : i ≤ length s

pub starts : (s : List ℕ) (m : List Mark) → length m ≡ 256 → get_or m 0 Floor ≡ Floor → Going s m (record { top = 0; structs = 0; arrays = 0; types = 0; fine = true }) 0
unfolding Held height structs_in arrays_in whole_in fine_in all_nest
starts s m l h =
    record {
      stack = floor [];
      follows = record { stands = record { long = l; held = h; top = refl; structs = refl; arrays = refl; types = refl }; fine = refl };
      left = refl;
      small = omega arith;
      within = omega arith;
    }

run_on : (c : ℕ) (cs : List ℕ) (k : Stack) {j : Stack} → step (find toks c) k ≡ to j → run (c ∷ cs) k ≡ run cs j
unfolding run
run_on c cs k e = rw (e, run)

run-off : (c : ℕ) (cs : List ℕ) (k : Stack) {f : Fault} → step (find toks c) k ≡ bad f → run (c ∷ cs) k ≡ bad f
unfolding run
run-off c cs k e = rw (e, run)

module _ {s : List ℕ} {m : List Mark} {o : State} {i : ℕ} (n : List Mark) (r : Result State Fault) (g : Going s m o i) (h : i < length s)
    (a : (k : Stack) → Follows k m o → After (step (find toks (get_or s i 0)) k) n (o.top + o.types + 1) r) where
  -- a byte that goes on
  pub goes_on : (q : State) → r ≡ Ok q → Going s n q (i + 1)
  goes_on q z = go (step (find toks (get_or s i 0)) g.stack) refl (a g.stack g.follows)
    where
      go : (x : Step) → step (find toks (get_or s i 0)) g.stack ≡ x → After x n (o.top + o.types + 1) r → Going s n q (i + 1)
      go (to j) e w =
          let p : w.state ≡ q = cc w.is in
          record {
            stack = j;
            follows = subst (λ (x : State). Follows j n x) p w.follows;
            left = rw add-one (sym (run_on (get_or s i 0) (drop (suc i) s) g.stack e) ∙ ap (λ (l : List ℕ). run l g.stack) (sym (drop-cons s i 0 h)) ∙ g.left);
            small = subst (λ (x : State). x.top + x.types ≤ i + 1) p (omega (arith, w.small, g.small));
            within = omega arith;
          }
      go (bad f) e w = absurd (let y : ◌≡◌ {A = ℕ} 0 1 = cc in omega arith)

  -- a byte that does not
  pub goes-off : (f : Fault) → r ≡ Err f → run s (floor []) ≡ bad f
  goes-off f z = go (step (find toks (get_or s i 0)) g.stack) refl (a g.stack g.follows)
    where
      go : (x : Step) → step (find toks (get_or s i 0)) g.stack ≡ x → After x n (o.top + o.types + 1) r → run s (floor []) ≡ bad f
      go (to j) e w = absurd (let y : ◌≡◌ {A = ℕ} 0 1 = cc w.is in omega arith)
      go (bad d) e w =
          let p : bad d ≡ bad f = cc in
          sym g.left ∙ ap (λ (l : List ℕ). run l g.stack) (drop-cons s i 0 h) ∙ run-off (get_or s i 0) (drop (suc i) s) g.stack e ∙ p

pub run_end : {s : List ℕ} {m : List Mark} {o : State} {i : ℕ} (g : Going s m o i) → length s ≤ i → run s (floor []) ≡ to g.stack
unfolding run
run_end {s} g h = sym g.left ∙ ap (λ (l : List ℕ). run l g.stack) (drop_of_length-le s h)

floor-fine : (ts : List Ty) → all_nest ts ≡ true → finish (to (floor ts)) ≡ types ts
floor-fine ts e = rw (e, finish)

floor-deep : (ts : List Ty) → all_nest ts ≡ false → finish (to (floor ts)) ≡ refused NestingTooDeep
floor-deep ts e = rw (e, finish)

-- what the stack at the end amounts to
module _ {m : List Mark} {o : State} where
  pub end-open : (k : Stack) → Follows k m o → (o.top ≡ 0 → ⊥) → counted_of (finish (to k)) ≡ Err (refusal InvalidSignature 0)
  unfolding height
  end-open (floor ts) f e = absurd (e f.stands.top)
  end-open (open0 k) f e = refl
  end-open (open1 fs k) f e = refl
  end-open (in_arr k) f e = refl
  end-open (need_key g k) f e = refl
  end-open (need_val g c k) f e = refl
  end-open (need_end g c d k) f e = refl

  pub end-fine : (k : Stack) → Follows k m o → o.top ≡ 0 → o.fine ≡ true → counted_of (finish (to k)) ≡ Ok o.types
  unfolding Handler whole_in fine_in
  end-fine k f e b = by-mark (λ k. Follows k m o → counted_of (finish (to k)) ≡ Ok o.types) k Floor (at-floor k (sym f.stands.top ∙ e))
      (λ ts g. ap counted_of (floor-fine ts (sym g.fine ∙ b)) ∙ ap Ok (sym g.stands.types)) f

  pub end-deep : (k : Stack) → Follows k m o → o.top ≡ 0 → o.fine ≡ false → counted_of (finish (to k)) ≡ Err (refusal NestingTooDeep 0)
  unfolding Handler fine_in
  end-deep k f e b = by-mark (λ k. Follows k m o → counted_of (finish (to k)) ≡ Err (refusal NestingTooDeep 0)) k Floor (at-floor k (sym f.stands.top ∙ e))
      (λ ts g. ap counted_of (floor-deep ts (sym g.fine ∙ b))) f

-- the length is looked at first
pub too_long : (s : List ℕ) → 255 < length s → counted_of (parse s) ≡ Err (refusal SignatureTooLong 0)
unfolding parse
too_long s h = ap counted_of (let p : parse s ≡ refused SignatureTooLong = rw (lt-leb (length s) 255 h, parse) in p)

pub not-long : (s : List ℕ) → length s ≤ 255 → parse s ≡ finish (run s (floor []))
unfolding parse
not-long s h = rw (le-leb (length s) 255 h, parse)

-- a signature of one byte
abbrev whole : Tok → Bool
whole q = base_tok q || eqb (code_tok q) 118

abbrev alone : Bool → Result ℕ Refusal
alone true = Ok 1
alone false = Err (refusal InvalidSignature 0)

one_on : (x : ℕ) (j : Stack) → step (find toks x) (floor []) ≡ to j → counted_of (parse (x ∷ [])) ≡ counted_of (finish (to j))
unfolding run
one_on x j e = ap counted_of (not-long (x ∷ []) (omega arith) ∙ ap finish (run_on x [] (floor []) e))

one-off : (x : ℕ) → step (find toks x) (floor []) ≡ bad InvalidSignature → counted_of (parse (x ∷ [])) ≡ alone false
one-off x e = ap counted_of (not-long (x ∷ []) (omega arith) ∙ ap finish (run-off x [] (floor []) e))

one_byte : (x : ℕ) → counted_of (parse (x ∷ [])) ≡ alone (whole (find toks x))
unfolding step put put_base nest all_nest
one_byte x = go (find toks x) refl
  where
    go : (q : Tok) → find toks x ≡ q → counted_of (parse (x ∷ [])) ≡ alone (whole (find toks x))
    go (is_base c) e = one_on x (floor (base c ∷ [])) (rw e) ∙ rw e
    go is_var e = one_on x (floor (variant ∷ [])) (rw e) ∙ rw e
    go is_arr e = one_on x (in_arr (floor [])) (rw e) ∙ rw e
    go is_open e = one_on x (open0 (floor [])) (rw e) ∙ rw e
    go is_curl e = one_on x (need_key loose (floor [])) (rw e) ∙ rw e
    go is_close e = one-off x (rw e) ∙ rw e
    go is_uncurl e = one-off x (rw e) ∙ rw e
    go is_bad e = one-off x (rw e) ∙ rw e

one-is : (x : ℕ) (b : Bool) → whole (find toks x) ≡ b → counted_of (parse (x ∷ [])) ≡ alone b
one-is x b e = one_byte x ∙ ap alone e

tells : ℕ → Bool
tells x = same (eqb x 118 || base_tok (find toks x)) (whole (find toks x))

-- the basic types' codes and the variant's are types by themselves
told : (x : ℕ) → x < 256 → whole (find toks x) ≡ (eqb x 118 || base_tok (find toks x))
unfolding tells passes find
told x h = same-is _ (whole (find toks x)) (passed tells 256 tt x h)

module _ (x : ℕ) (h : x < 256) where
  pub alone-variant : x ≡ 118 → counted_of (parse (x ∷ [])) ≡ Ok 1
  alone-variant e = one-is x true (told x h ∙ simp (eq-eqb x 118 e))

  pub alone-basic : base_tok (find toks x) ≡ true → counted_of (parse (x ∷ [])) ≡ Ok 1
  alone-basic b = one-is x true (told x h ∙ simp (b, or-true))

  pub alone-none : (x ≡ 118 → ⊥) → base_tok (find toks x) ≡ false → counted_of (parse (x ∷ [])) ≡ Err (refusal InvalidSignature 0)
  alone-none v b = one-is x false (told x h ∙ simp (ne_eqb x 118 v, b))

pub the-byte : (s : List ℕ) → length s ≡ 1 → s ≡ get_or s 0 0 ∷ []
the-byte [] h = absurd (omega arith)
the-byte (c ∷ []) h = refl
the-byte (c ∷ d ∷ ds) h = absurd (omega arith)

pub check-empty : (s : List ℕ) → length s ≡ 0 → check_signature s ≡ Err (refusal EmptySignature 0)
unfolding check_signature
check-empty [] h = refl
check-empty (c ∷ cs) h = absurd (omega arith)

pub check-some : (s : List ℕ) → (length s ≡ 0 → ⊥) → check_signature s ≡ counted_of (parse s)
unfolding check_signature
check-some [] h = absurd (h refl)
check-some (c ∷ cs) h = refl
