-- Which bytes are codes of basic types: tests that antt computes over all bytes, carried to each.
use Prim.Native.Nat.{ℕ, ◌<◌}
use mathlib.Core.Path.{◌≡◌, refl}
use mathlib.Core.Bool.{Bool, true, false, not, ◌||◌}
use mathlib.Core.Logic.{◌⊎◌, inl, inr}
use native.Mathlib.Omega.{arith}
use lib.Dec.{T, eqb}
use borrow.Author.Tests.{ne_eqb}
use Rattle.meaning.specs.Types.{Base, variant}
use Rattle.meaning.specs.Signature.{Tok, is_base, is_arr, is_var, is_open, is_close, is_curl, is_uncurl, is_bad, toks, find, Stack, open0, in_arr, bad, put, put_base, begin, curl, close, uncurl, step}
use Rattle.meaning.specs.declared.Fault.TheVariants.{InvalidSignature}
use Rattle.types.specs.Codes.{align_code}
use Rattle.types.proofs.Rule.{passes, passed}
use Rattle.signature.specs.Codes.{base_tok, key_tok}

abbrev pub same : Bool → Bool → Bool
same true b = b
same false b = not b

pub same-is : (a b : Bool) → T (same a b) → b ≡ a
same-is true true h = refl
same-is true false h = absurd h
same-is false true h = absurd h
same-is false false h = refl

-- the codes of the types that are not basic
abbrev pub Composite : ℕ → Type 0
Composite x = (x ≡ 40) ⊎ (x ≡ 97) ⊎ (x ≡ 118)

pub composite-code : {x : ℕ} → Composite x → base_tok (find toks x) ≡ false
unfolding find
composite-code (inl e) = rw e
composite-code (inr (inl e)) = rw e
composite-code (inr (inr e)) = rw e

tabled : ℕ → Bool
tabled x = eqb x 40 || (eqb x 97 || (eqb x 118 || same (not (eqb (align_code x) 0)) (base_tok (find toks x))))

-- of the others, those that the table has an alignment for
pub table-code : (x : ℕ) → x < 256 → (Composite x → ⊥) → base_tok (find toks x) ≡ not (eqb (align_code x) 0)
unfolding tabled passes find align_code
table-code x h n =
    let t = simp (ne_eqb x 40 (λ e. n (inl e)), ne_eqb x 97 (λ e. n (inr (inl e))), ne_eqb x 118 (λ e. n (inr (inr e)))) at (passed tabled 256 tt x h) in
    same-is (not (eqb (align_code x) 0)) (base_tok (find toks x)) t

-- every basic type but Boolean is a key
keyed : ℕ → Bool
keyed x = eqb x 98 || same (key_tok (find toks x)) (base_tok (find toks x))

pub key-basic : (x : ℕ) → x < 256 → (x ≡ 98 → ⊥) → base_tok (find toks x) ≡ key_tok (find toks x)
unfolding keyed passes find
key-basic x h n = same-is (key_tok (find toks x)) (base_tok (find toks x)) (simp (ne_eqb x 98 n) at (passed keyed 256 tt x h))

pub key-bool : (x : ℕ) → x ≡ 98 → key_tok (find toks x) ≡ false
unfolding find
key-bool x e = rw e

-- the basic type of a code
pub record Coded (x : ℕ) : Type 0 where
  pub type : Base
  pub is : find toks x ≡ is_base type

pub coded : (x : ℕ) → base_tok (find toks x) ≡ true → Coded x
coded x h = go (find toks x) refl h
  where
    go : (q : Tok) → find toks x ≡ q → base_tok q ≡ true → Coded x
    go (is_base b) e t = record { type = b; is = e }
    go is_arr e t = absurd (let z : ◌≡◌ {A = ℕ} 0 1 = cc in omega arith)
    go is_var e t = absurd (let z : ◌≡◌ {A = ℕ} 0 1 = cc in omega arith)
    go is_open e t = absurd (let z : ◌≡◌ {A = ℕ} 0 1 = cc in omega arith)
    go is_close e t = absurd (let z : ◌≡◌ {A = ℕ} 0 1 = cc in omega arith)
    go is_curl e t = absurd (let z : ◌≡◌ {A = ℕ} 0 1 = cc in omega arith)
    go is_uncurl e t = absurd (let z : ◌≡◌ {A = ℕ} 0 1 = cc in omega arith)
    go is_bad e t = absurd (let z : ◌≡◌ {A = ℕ} 0 1 = cc in omega arith)

-- the step that each byte takes
module _ (x : ℕ) (k : Stack) where
  pub step-base : (b : Base) → find toks x ≡ is_base b → step (find toks x) k ≡ put_base k b
  unfolding find step
  step-base b e = rw e

  pub step_variant : x ≡ 118 → step (find toks x) k ≡ put k variant
  unfolding find step
  step_variant e = rw e

  pub step-array : x ≡ 97 → step (find toks x) k ≡ begin k (in_arr k)
  unfolding find step
  step-array e = rw e

  pub step-struct : x ≡ 40 → step (find toks x) k ≡ begin k (open0 k)
  unfolding find step
  step-struct e = rw e

  pub step-curl : x ≡ 123 → step (find toks x) k ≡ curl k
  unfolding find step
  step-curl e = rw e

  pub step-close : x ≡ 41 → step (find toks x) k ≡ close k
  unfolding find step
  step-close e = rw e

  pub step-uncurl : x ≡ 125 → step (find toks x) k ≡ uncurl k
  unfolding find step
  step-uncurl e = rw e

bad_tok : Tok → Bool
bad_tok (is_base c) = false
bad_tok is_arr = false
bad_tok is_var = false
bad_tok is_open = false
bad_tok is_close = false
bad_tok is_curl = false
bad_tok is_uncurl = false
bad_tok is_bad = true

bad-is : (q : Tok) → T (bad_tok q) → q ≡ is_bad
unfolding bad_tok
bad-is (is_base c) h = absurd h
bad-is is_arr h = absurd h
bad-is is_var h = absurd h
bad-is is_open h = absurd h
bad-is is_close h = absurd h
bad-is is_curl h = absurd h
bad-is is_uncurl h = absurd h
bad-is is_bad h = refl

-- what is no code of the grammar
known : ℕ → Bool
known x = base_tok (find toks x) || (eqb x 118 || (eqb x 97 || (eqb x 40 || (eqb x 123 || (eqb x 41 || (eqb x 125 || bad_tok (find toks x)))))))

pub step-bad : {x : ℕ} (k : Stack) → x < 256 → base_tok (find toks x) ≡ false → (x ≡ 118 → ⊥) → (x ≡ 97 → ⊥) → (x ≡ 40 → ⊥) → (x ≡ 123 → ⊥) → (x ≡ 41 → ⊥) → (x ≡ 125 → ⊥)
    → step (find toks x) k ≡ bad InvalidSignature
unfolding known passes find step bad_tok
step-bad {x} k h b n1 n2 n3 n4 n5 n6 =
    let e : find toks x ≡ is_bad = bad-is (find toks x) (simp (b, ne_eqb x 118 n1, ne_eqb x 97 n2, ne_eqb x 40 n3, ne_eqb x 123 n4, ne_eqb x 41 n5, ne_eqb x 125 n6) at (passed known 256 tt x h)) in
    rw e
