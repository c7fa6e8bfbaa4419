-- The table's rule: what is read off the table for a byte is the code's alignment and size. One test over all bytes, which antt computes.
use Prim.Native.Nat.{ℕ, zero, suc, ◌+◌, ◌*◌, ◌-◌, ◌<◌}
use mathlib.Core.Path.{◌≡◌, refl, subst}
use mathlib.Core.Bool.{Bool, true, false, cond, ◌&&◌}
use mathlib.Core.List.{List, [], ◌∷◌}
use mathlib.Core.Logic.{◌⊎◌, inl, inr}
use native.Mathlib.Omega.{arith}
use lib.Dec.{T, eqb, ltb, eqb→eq, ltb→lt}
use lib.ListN.{get_or}
use borrow.Author.Tests.{ltb-true, ltb-false}
use Rattle.types.specs.Codes.{align_code, size_code}
use Rattle.meaning.specs.Signature.{find}
use Rattle.meaning.proofs.Booleans.{and_left, and_right}

-- the entries of the table, from the code 40 on
unfoldable pub entries : List ℕ
entries = 0x80 ∷ 0 ∷ 0 ∷ 0 ∷ 0 ∷ 0 ∷ 0 ∷ 0 ∷ 0 ∷ 0 ∷ 0 ∷ 0 ∷ 0 ∷ 0 ∷ 0 ∷ 0 ∷ 0 ∷ 0 ∷ 0 ∷ 0 ∷ 0 ∷ 0 ∷ 0 ∷ 0 ∷ 0 ∷ 0 ∷ 0 ∷ 0 ∷ 0 ∷ 0 ∷ 0 ∷ 0 ∷
    0 ∷ 0 ∷ 0 ∷ 0 ∷ 0 ∷ 0 ∷ 0 ∷ 0 ∷ 0 ∷ 0 ∷ 0 ∷ 0 ∷ 0 ∷ 0 ∷ 0 ∷ 0 ∷ 0 ∷ 0 ∷ 0 ∷ 0 ∷ 0 ∷ 0 ∷ 0 ∷ 0 ∷ 0 ∷ 0x40 ∷ 0x44 ∷ 0 ∷ 0x88 ∷ 0 ∷ 0 ∷
    0x10 ∷ 0x44 ∷ 0x44 ∷ 0 ∷ 0 ∷ 0 ∷ 0 ∷ 0x22 ∷ 0x40 ∷ 0 ∷ 0x22 ∷ 0 ∷ 0x40 ∷ 0x88 ∷ 0x44 ∷ 0x10 ∷ 0 ∷ 0x88 ∷ 0x11 ∷ []

-- a test that passes at every number below n
unfoldable pub passes : (ℕ → Bool) → ℕ → Bool
passes f zero = true
passes f (suc n) = f n && passes f n

last : (k n : ℕ) → k < suc n → (k < n) ⊎ (n ≡ k)
last k n h = go (ltb k n) refl
  where
    go : (b : Bool) → ltb k n ≡ b → (k < n) ⊎ (n ≡ k)
    go true e = inl (ltb-true k n e)
    go false e = inr (omega (arith, ltb-false k n e))

pub passed : (f : ℕ → Bool) (n : ℕ) → T (passes f n) → (k : ℕ) → k < n → T (f k)
unfolding passes
passed f zero t k h = absurd (omega arith)
passed f (suc n) t k h = go (last k n h) (passed f n (and_right (f n) (passes f n) t) k)
  where
    go : (k < n) ⊎ (n ≡ k) → (k < n → T (f k)) → T (f k)
    go (inl l) ih = ih l
    go (inr e) ih = subst (λ (m : ℕ). T (f m)) e (and_left (f n) (passes f n) t)

-- the table by code, 0 outside
unfoldable pub table_at : ℕ → ℕ
table_at x = cond (ltb x 40) 0 (cond (ltb (x - 40) 82) (get_or entries (x - 40) 0) 0)

right : ℕ → Bool
right x = eqb (table_at x) (align_code x * 16 + size_code x)

pub rule : (x : ℕ) → x < 256 → table_at x ≡ align_code x * 16 + size_code x
unfolding entries table_at right passes align_code size_code find
rule x h = eqb→eq (table_at x) (align_code x * 16 + size_code x) (passed right 256 tt x h)

-- a size is one hex digit
small : ℕ → Bool
small x = ltb (size_code x) 16

pub size_small : (x : ℕ) → x < 256 → size_code x < 16
unfolding small passes size_code find
size_small x h = ltb→lt (size_code x) 16 (passed small 256 tt x h)
