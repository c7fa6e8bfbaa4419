-- Read-back: what a writer wrote is accepted there with the written length and reads as the same value. Each theorem is about any answer and any
-- buffer that meet the writer's contract.
use Prim.Native.Nat.{ℕ, suc, ◌+◌, ◌-◌, ◌^◌, ◌≤◌, ◌<◌}
use native.Mathlib.Omega.{arith}
use mathlib.Core.Bool.{Bool, true, false}
use mathlib.Core.List.{List, [], ◌++◌, append_assoc}
use mathlib.Core.Path.{◌≡◌, refl, ap, sym, subst, ◌∙◌}
use lib.Dec.{ltb, eqb}
use lib.ListN.{length, take, drop, replicate, length-append, length-drop, length-replicate}
use lib.Seq.{length-take-le, drop_at}
use borrow.Author.Tests.{ltb-true, eqb-true}
use Rattle.meaning.specs.Types.{Fix, Base, fix, str, sig, Raw, size, top, align_base}
use Rattle.meaning.specs.Number.{store, load, gap}
use Rattle.meaning.specs.Text.{utf8, no_zero}
use Rattle.meaning.specs.Signature.{Parsed, types, refused, parse}
use Rattle.meaning.specs.Value.{pad, raw, sized, bare, enc_base, OkBase}
use Rattle.meaning.specs.Reader.{got, R, ret, ◌>>=◌, bytes as bytes_r}
use Rattle.meaning.specs.Reads.{unsigned_r, integer_of, read_integer, check_padding}
use Rattle.meaning.specs.ReadValue.{padding, read_text, read_g, bare_r, base_r, taken, check_at}
use Rattle.meaning.specs.Writers.{Content, bytes, faulty, put_at, write_at, is_alignment, padding_bytes, integer_bytes, string_bytes, signature_from, signature_bytes}
use Rattle.meaning.specs.declared.Place.{Place}
use Rattle.meaning.specs.declared.Order.{Order}
use Rattle.meaning.specs.declared.Fault.{Fault}
use Rattle.meaning.specs.declared.Fault.TheVariants.{BadAlignment, InvalidUtf8, StringContainsNullByte, TextTooLong}
use Rattle.std.specs.Prelude.{Ok}
use Rattle.meaning.proofs.Local.{Cmp, cmp, is_le, is_gt, leb-true, leb-false}
use Rattle.meaning.proofs.NumberLaws.{length-store, load_store}
use Rattle.meaning.proofs.Meets.{At, at_none, at-then, here-bind, bytes-bind, padding-complete}
use Rattle.meaning.proofs.BaseMeets.{bares, bases}
use Rattle.meaning.proofs.Utf8.{utf8-sound}
use Rattle.meaning.proofs.SignatureLaws.{parse-sound}
use Rattle.write.proofs.texts.Contents.{length-sized}

-- the bytes xs stand at a place of a buffer, and the answer is the place past them
pub record Stands (xs after : List ℕ) (at : ℕ) (p : Place) : Type 0 where
  pub held : At after at xs p.0
  pub inside : p.0 ≤ length after

-- a write that is done met the contract: its content was bytes, and there they stand
module _ (c : Content) (b : List ℕ) (at : ℕ) (p : Place) (after : List ℕ) where
  pub record Met : Type 0 where
    pub done : Ok p ≡ (write_at c b at).answer
    pub buffer : after ≡ (write_at c b at).after

  there : (xs : List ℕ) → at + length xs ≤ length b → p.0 ≡ at + length xs → after ≡ take at b ++ xs ++ drop (at + length xs) b → Stands xs after at p
  there xs h e q =
      let d : List ℕ = drop (at + length xs) b in
      let l : length (take at b) ≡ at = length-take-le at b (omega arith) in
      let m : length (take at b ++ xs) ≡ at + length xs = rw (length-append, l) in
      let k : length d ≡ length b - (at + length xs) = length-drop (at + length xs) b in
      let f : drop at after ≡ xs ++ d = rw (q, append_assoc) (drop_at (take at b) (xs ++ d) at l) in
      let g : drop p.0 after ≡ d = rw (q, e) (drop_at (take at b ++ xs) d (at + length xs) m) in
      record { held = record { end = e; is = rw (f, g) }; inside = rw (q, length-append, m) (omega arith) }

  put-stands : (xs : List ℕ) → Ok p ≡ (put_at b at xs).answer → after ≡ (put_at b at xs).after → Stands xs after at p
  unfolding put_at
  put-stands xs h q = go (cmp (at + length xs) (length b))
    where
      go : Cmp (at + length xs) (length b) → Stands xs after at p
      go (is_le t l) = let d : Ok p ≡ Ok (record { 0 = at + length xs }) = rw (t, put_at) at h in there xs l (cc) (rw (t, put_at) at q)
      go (is_gt t l) = absurd (let d = rw (t, put_at) at h in let z : ◌≡◌ {A = ℕ} 0 1 = cc in omega arith)

  outside-not : length b < at → Met → ⊥
  unfolding write_at
  outside-not h m = let d = rw (leb-false at (length b) h, write_at) at m.done in let z : ◌≡◌ {A = ℕ} 0 1 = cc in omega arith

  pub met-stands : (xs : List ℕ) → c ≡ bytes xs → Met → Stands xs after at p
  unfolding write_at
  met-stands xs e m = go (cmp at (length b))
    where
      go : Cmp at (length b) → Stands xs after at p
      go (is_le t l) = put-stands xs (rw (t, write_at, e) at m.done) (rw (t, write_at, e) at m.buffer)
      go (is_gt t l) = absurd (outside-not l m)

  pub no-fault : (f : Fault) → c ≡ faulty f → Met → ⊥
  unfolding write_at
  no-fault f e m = go (cmp at (length b))
    where
      go : Cmp at (length b) → ⊥
      go (is_le t l) = let d = rw (t, write_at, e) at m.done in let z : ◌≡◌ {A = ℕ} 0 1 = cc in omega arith
      go (is_gt t l) = outside-not l m

-- what a reader got is what a check accepts
checked : {A : Type 0} (r : R A) (b : List ℕ) (off : ℕ) (v : A) (e : ℕ) → off ≤ e → e ≤ length b → r b off ≡ got v e → check_at r b off ≡ taken (e - off)
unfolding check_at
checked r b off v e h l q = rw (leb-true off (length b) (omega arith), check_at, q)

-- read back by a reader: the same value, with the written length
pub record Back {A : Type 0} (r : R A) (v : A) (n : ℕ) (after : List ℕ) (at : ℕ) (p : Place) : Type 0 where
  pub same : r after at ≡ got v p.0
  pub accepted : check_at r after at ≡ taken n

back : {A : Type 0} (r : R A) (v : A) (xs after : List ℕ) (at : ℕ) (p : Place) → Stands xs after at p → r after at ≡ got v p.0 → Back r v (length xs) after at p
back r v xs after at p s q =
    let e : p.0 - at ≡ length xs = omega (arith, s.held.end) in
    record { same = q; accepted = checked r after at v p.0 (omega (arith, s.held.end)) s.inside q ∙ ap taken e }

-- a basic value without its padding, at any place; and with it, at a place of its alignment, where the padding is none
module _ (o : Order) (c : Base) (v : Raw c) (k : OkBase c v) (after : List ℕ) (at : ℕ) (p : Place) (s : Stands (bare o c v) after at p) where
  pub bare-back : Back (bare_r o c) v (length (bare o c v)) after at p
  bare-back = back (bare_r o c) v (bare o c v) after at p s ((bares o c).complete after at v p.0 k s.held s.inside)

  pub base_back : gap (align_base c) at ≡ 0 → Back (base_r o c) v (length (bare o c v)) after at p
  unfolding pad enc_base
  base_back g =
      let n : pad (align_base c) at ≡ [] = ap (λ (z : ℕ). replicate z 0) g in
      let t : At after at (pad (align_base c) at) at = subst (λ (z : List ℕ). At after at z at) (sym n) (at_none after at) in
      back (base_r o c) v (bare o c v) after at p s
      ((bases o c).complete after at v p.0 k (at-then after at (pad (align_base c)) (raw (bare o c v)) at p.0 t s.held) s.inside)

-- Numbers: one theorem over widths and orders
module _ (o : Order) (w x : ℕ) (h : x < 256 ^ w) (b : List ℕ) (at : ℕ) (p : Place) (after : List ℕ) where
  pub integer-back : Met (integer_bytes o w x) b at p after → (read_integer o w after at ≡ Ok x) × (p.0 ≡ at + w)
  unfolding read_integer unsigned_r ret
  integer-back m =
      let s = met-stands (integer_bytes o w x) b at p after (store o w x) refl m in
      let e : p.0 ≡ at + w = s.held.end ∙ ap (λ (n : ℕ). at + n) (length-store o w x) in
      let q : unsigned_r o w after at ≡ got x p.0
      = here-bind (λ z. bytes_r w z >>= λ xs. ret (load o xs)) after at
      ∙ bytes-bind w at (λ xs. ret (load o xs)) after at (store o w x) p.0 (length-store o w x) s.held s.inside
      ∙ ap (λ (z : ℕ). got z p.0) (load_store o w x h) in
      (rw (leb-true at (length after) (omega (arith, s.inside)), read_integer) (ap integer_of q), e)

-- and as a value of any fixed type of that width, at a place of its alignment
pub fixed_back : (o : Order) (c : Fix) (x : ℕ) → x < top c → (b : List ℕ) (at : ℕ) (p : Place) (after : List ℕ) → gap (size c) at ≡ 0
    → Met (integer_bytes o (size c) x) b at p after → Back (base_r o (fix c)) x (size c) after at p
unfolding bare OkBase
fixed_back o c x h b at p after g m =
    let s = met-stands (integer_bytes o (size c) x) b at p after (store o (size c) x) refl m in
    subst (λ (n : ℕ). Back (base_r o (fix c)) x n after at p) (length-store o (size c) x) (base_back o (fix c) x h after at p s g)

-- a text with its length before it and a zero behind it reads as itself, with the length of all three
sized-back : (r : R (List ℕ)) (o : Order) (w : ℕ) (s : List ℕ) (c : Content) (b : List ℕ) (at : ℕ) (p : Place) (after : List ℕ) → c ≡ bytes (sized o w s)
    → Met c b at p after → (Stands (sized o w s) after at p → Back r s (length (sized o w s)) after at p) → Back r s (length s + suc w) after at p
sized-back r o w s c b at p after e m h =
    let n : length (sized o w s) ≡ length s + suc w = sym (length-sized o w s) ∙ omega arith in
    subst (λ (z : ℕ). Back r s z after at p) n (h (met-stands c b at p after (sized o w s) e m))

-- Strings: what was not refused is a string, and reads as itself
string-fine : (o : Order) (s : List ℕ) → ((f : Fault) → string_bytes o s ≡ faulty f → ⊥) → OkBase str s × (string_bytes o s ≡ bytes (sized o 4 s))
unfolding OkBase
string-fine o s h = go (ltb (length s) (256 ^ 4)) (utf8 s) (no_zero s) refl refl refl
  where
    go : (x y z : Bool) → ltb (length s) (256 ^ 4) ≡ x → utf8 s ≡ y → no_zero s ≡ z → OkBase str s × (string_bytes o s ≡ bytes (sized o 4 s))
    go false y z e f g = absurd (h TextTooLong (rw e))
    go true false z e f g = absurd (h InvalidUtf8 (rw (e, f)))
    go true true false e f g = absurd (h StringContainsNullByte (rw (e, f, g)))
    go true true true e f g = ((utf8-sound s (rw f tt), rw g tt, ltb-true (length s) (256 ^ 4) e), rw (e, f, g))

pub string-back : (o : Order) (s b : List ℕ) (at : ℕ) (p : Place) (after : List ℕ) → Met (string_bytes o s) b at p after → Back (read_text o) s (length s + 5) after at p
unfolding bare_r bare
string-back o s b at p after m =
    let k = string-fine o s (λ f e. no-fault (string_bytes o s) b at p after f e m) in
    sized-back (read_text o) o 4 s (string_bytes o s) b at p after k.1 m (bare-back o str s k.0 after at p)

-- Signatures
signature-fine : (o : Order) (s : List ℕ) → ((f : Fault) → signature_bytes o s ≡ faulty f → ⊥) → OkBase sig s × (signature_bytes o s ≡ bytes (sized o 1 s))
unfolding OkBase
signature-fine o s h = go (parse s) refl
  where
    go : (q : Parsed) → parse s ≡ q → OkBase sig s × (signature_bytes o s ≡ bytes (sized o 1 s))
    go (types ts) e = let w = parse-sound s ts e in ((ts, w.0, w.1, w.2), ap (signature_from o s) e)
    go (refused f) e = absurd (h f (ap (signature_from o s) e))

pub signature-back : (o : Order) (s b : List ℕ) (at : ℕ) (p : Place) (after : List ℕ) → Met (signature_bytes o s) b at p after → Back (read_g o) s (length s + 2) after at p
unfolding bare_r bare
signature-back o s b at p after m =
    let k = signature-fine o s (λ f e. no-fault (signature_bytes o s) b at p after f e m) in
    sized-back (read_g o) o 1 s (signature_bytes o s) b at p after k.1 m (bare-back o sig s k.0 after at p)

-- Padding: accepted with its length, and it leads to a place of the alignment
aligned : (a : ℕ) → is_alignment a ≡ true → (off : ℕ) → gap a (off + gap a off) ≡ 0
unfolding gap
aligned a e off = go (eqb a 1) (eqb a 2) (eqb a 4) (eqb a 8) refl refl refl refl
  where
    go : (w x y z : Bool) → eqb a 1 ≡ w → eqb a 2 ≡ x → eqb a 4 ≡ y → eqb a 8 ≡ z → gap a (off + gap a off) ≡ 0
    go true x y z h i j k = rw (eqb-true a 1 h) (omega arith)
    go false true y z h i j k = rw (eqb-true a 2 i) (omega arith)
    go false false true z h i j k = rw (eqb-true a 4 j) (omega arith)
    go false false false true h i j k = rw (eqb-true a 8 k) (omega arith)
    go false false false false h i j k = absurd (let n : false ≡ true = sym (rw (h, i, j, k)) ∙ e in let t : ◌≡◌ {A = ℕ} 0 1 = cc in omega arith)

pub record Padded (a : ℕ) (after : List ℕ) (at : ℕ) (p : Place) : Type 0 where
  pub accepted : check_padding a after at ≡ taken (gap a at)
  pub past : p.0 ≡ at + gap a at
  pub even : gap a p.0 ≡ 0

module _ (a : ℕ) (b : List ℕ) (at : ℕ) (p : Place) (after : List ℕ) (m : Met (padding_bytes a at) b at p after) where
  pub padding-back : Padded a after at p
  unfolding check_padding pad
  padding-back = go (is_alignment a) refl
    where
      go : (x : Bool) → is_alignment a ≡ x → Padded a after at p
      go false e = absurd (no-fault (padding_bytes a at) b at p after BadAlignment (rw e) m)
      go true e =
          let s = met-stands (padding_bytes a at) b at p after (replicate (gap a at) 0) (rw e) m in
          let n : length {A = ℕ} (replicate (gap a at) 0) ≡ gap a at = length-replicate (gap a at) 0 in
          let q : p.0 ≡ at + gap a at = s.held.end ∙ ap (λ (z : ℕ). at + z) n in
          let k = back (padding a) tt (replicate (gap a at) 0) after at p s (padding-complete a after at p.0 s.held s.inside) in
          record {
            accepted = rw (leb-true at (length after) (omega (arith, s.inside)), e, check_padding) (k.accepted ∙ ap taken n);
            past = q;
            even = rw q (aligned a e at);
          }
