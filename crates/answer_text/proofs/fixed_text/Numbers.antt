-- A signed number by its sign and its distance from zero, and the bytes of 64 bits in hexadecimal, are the texts of the definitions.
use Rattle.std.proofs.Common.{◌≡◌, ◌∙◌, refl, ap, ℕ, zero, suc, ◌*◌, ◌/◌, ◌%◌, ◌^◌, ◌<◌, List, [], ◌∷◌, ◌++◌, ℤ, pos, negsuc, true, false, arith}
use Rattle.std.proofs.lemmas.List.{append_assoc}
use Rattle.std.specs.Int.{to_be_bytes, bytes_high_first, byte_at, w64}
use Rattle.std.proofs.Math.Nat.{pow-suc, div-div-eq-div-mul}
use lib.IntN.{nat_abs}
use lib.Signed.{lt_z}
use borrow.Author.Tests.{ltb-true}
use Rattle.io.specs.Digits.{last_digits, hex_digit_ascii}
use Rattle.text_out.specs.Digits.{hex_text, decimal}
use Rattle.answer_text.specs.Values.{signed_texts}

-- how far a number lies from zero, on the side that the test says
pub below : (z : ℤ) → lt_z z (pos 0) ≡ true → signed_texts z ≡ (45 ∷ []) ∷ decimal (nat_abs z) ∷ []
below (pos m) p = let h : m < 0 = ltb-true m 0 p in absurd (omega arith)
below (negsuc m) p = refl

pub above : (z : ℤ) → lt_z z (pos 0) ≡ false → signed_texts z ≡ decimal (nat_abs z) ∷ []
above (pos m) p = refl
above (negsuc m) p = let q : ◌≡◌ {A = ℕ} 0 1 = cc in absurd (omega arith)

byte-shifted : (i n : ℕ) → byte_at i (n / 256) ≡ byte_at (suc i) n
byte-shifted zero n = refl
byte-shifted (suc i) n =
    let p : 256 * 256 ^ suc i ≡ 256 ^ suc (suc i) = omega (arith, pow-suc 256 (suc i)) in
    ap (λ (m : ℕ). m % 256) (div-div-eq-div-mul n 256 (256 ^ suc i) ∙ ap (λ (m : ℕ). n / m) p)

lowest-last : (k n : ℕ) → bytes_high_first (suc k) n ≡ bytes_high_first k (n / 256) ++ (n % 256 ∷ [])
lowest-last zero n = refl
lowest-last (suc k) n = rw (byte-shifted k n) (ap (λ (bs : List ℕ). byte_at (suc k) n ∷ bs) (lowest-last k n))

last-pair : (bs : List ℕ) (b : ℕ) → hex_text (bs ++ (b ∷ [])) ≡ hex_text bs ++ (hex_digit_ascii (b / 16) ∷ hex_digit_ascii (b % 16) ∷ [])
unfolding hex_text
last-pair [] b = refl
last-pair (x ∷ bs) b = ap (λ (s : List ℕ). hex_digit_ascii (x / 16) ∷ hex_digit_ascii (x % 16) ∷ s) (last-pair bs b)

twice : ℕ → ℕ
twice zero = zero
twice (suc k) = suc (suc (twice k))

two-each : (k n : ℕ) → hex_text (bytes_high_first k n) ≡ last_digits 16 (twice k) n
unfolding hex_text twice
two-each zero n = refl
two-each (suc k) n =
    let high : n % 256 / 16 ≡ n / 16 % 16 = omega arith in
    let low : n % 256 % 16 ≡ n % 16 = omega arith in
    let rest : n / 256 ≡ n / 16 / 16 = omega arith in
    ap hex_text (lowest-last k n) ∙ last-pair (bytes_high_first k (n / 256)) (n % 256) ∙ rw (high, low, two-each k (n / 256), rest, append_assoc)

pub sixteen : (n : ℕ) → hex_text (to_be_bytes w64 n) ≡ last_digits 16 16 n
unfolding twice
sixteen n = two-each 8 n
