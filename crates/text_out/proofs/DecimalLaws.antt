-- The fewest digits that hold a number are its decimal text.
use Prim.Native.Nat.{ℕ, zero, suc, ◌-◌, ◌*◌, ◌/◌, ◌%◌, ◌^◌, ◌≤◌, ◌<◌}
use native.Mathlib.Omega.{arith}
use native.Mathlib.Nat.{pow-suc, one-le-pow}
use mathlib.Core.Path.{◌≡◌, ap}
use mathlib.Core.List.{List, [], ◌∷◌, ◌++◌}
use borrow.Author.Tests.{le-ltb, lt-ltb}
use Rattle.io.specs.Digits.{hex_digit_ascii, last_digits, IsDigitCount}
use Rattle.text_out.specs.Digits.{decimal_within, decimal}

below_power : (k : ℕ) → k < 10 ^ k
below_power zero = omega arith
below_power (suc k) = rw pow-suc (omega (arith, below_power k))

at_least : (n k : ℕ) → IsDigitCount 10 1 n (suc (suc k)) → 10 ^ suc k ≤ n
at_least n k w = let e : suc (suc k) - 1 ≡ suc k = omega arith in rw e at (w.2 (omega arith))

within : (k f n : ℕ) → k ≤ f → IsDigitCount 10 1 n k → last_digits 10 k n ≡ decimal_within f n
unfolding decimal_within
within zero f n h w = absurd (omega (arith, w.0))
within (suc k) zero n h w = absurd (omega arith)
within (suc zero) (suc f) n h w =
    let q : n % 10 ≡ n = omega (arith, w.1) in
    rw (q, lt-ltb n 10 (omega (arith, w.1)))
within (suc (suc k)) (suc f) n h w =
    let l = at_least n k w in
    let p : 10 ^ suc k ≡ 10 ^ k * 10 = pow-suc 10 k in
    let u : n < 10 ^ suc k * 10 = rw pow-suc at w.1 in
    let o : 1 ≤ 10 ^ k = one-le-pow k 10 (omega arith) in
    let e : suc k - 1 ≡ k = omega arith in
    let low : 1 < suc k → 10 ^ (suc k - 1) ≤ n / 10 = λ s. rw e (omega arith) in
    rw (le-ltb n 10 (omega arith)) (ap (λ (xs : List ℕ). xs ++ (hex_digit_ascii (n % 10) ∷ [])) (within (suc k) f (n / 10) (omega arith) (omega arith, omega arith, low)))

pub fewest-decimal : (n k : ℕ) → IsDigitCount 10 1 n k → last_digits 10 k n ≡ decimal n
unfolding decimal
fewest-decimal n k w = within k (suc n) n (few k w) w where
  few : (j : ℕ) → IsDigitCount 10 1 n j → j ≤ suc n
  few zero v = omega arith
  few (suc zero) v = omega arith
  few (suc (suc j)) v =
      let l = at_least n j v in omega (arith, below_power (suc j))
