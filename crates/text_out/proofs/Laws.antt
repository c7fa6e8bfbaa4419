-- What one turn of a loop over bytes that are put does, and when there is room for a text, by the definitions.
use Prim.Native.Nat.{ℕ, suc, ◌+◌, ◌*◌, ◌/◌, ◌%◌, ◌≤◌, ◌<◌}
use native.Mathlib.Omega.{arith}
use native.Mathlib.Numerals.{add-one}
use mathlib.Core.Path.{◌≡◌, refl}
use mathlib.Core.List.{List, [], ◌∷◌}
use lib.ListN.{length, drop, get_or, set}
use lib.Seq.{sets, drop-cons}
use borrow.Author.Tests.{le-leb, lt-leb}
use Rattle.io.specs.Digits.{hex_digit_ascii}
use Rattle.text_out.specs.Digits.{hex_text, bytes_text}
use Rattle.text_out.specs.Puts.{put_text, put_all, Puts}

pub text-turn : (l e s : List ℕ) (at i : ℕ) → i < length s → sets l (at + 2 * i) (hex_text (drop i s)) ≡ e
    → sets (set (set l (at + 2 * i) (hex_digit_ascii (get_or s i 0 / 16))) (at + 2 * i + 1) (hex_digit_ascii (get_or s i 0 % 16))) (at + 2 * (i + 1)) (hex_text (drop (i + 1) s)) ≡ e
unfolding hex_text
text-turn l e s at i h p =
    let q : at + 2 * (i + 1) ≡ suc (suc (at + 2 * i)) = omega arith in
    let r : at + 2 * i + 1 ≡ suc (at + 2 * i) = omega arith in
    rw (q, r, add-one i) (rw (drop-cons s i 0 h) at p)

alone : {out b x : List ℕ} {at p : ℕ} → (p ≡ (put_text out at x).place) × (b ≡ (put_text out at x).after) → Puts out at (x ∷ []) p b
unfolding put_all
alone h = record { place = h.0; after = h.1 }

-- a text that there is room for, and one that there is none for
pub fitting : (out xs e : List ℕ) (at n : ℕ) → at + length xs ≤ length out → n ≡ at + length xs → e ≡ sets out at xs → Puts out at (xs ∷ []) n e
unfolding put_text
fitting out xs e at n h p q = alone (rw (le-leb _ _ h, put_text) (p, q))

pub left_out : (out xs : List ℕ) (at : ℕ) → length out < at + length xs → Puts out at (xs ∷ []) at out
unfolding put_text
left_out out xs at h = alone (rw (lt-leb _ _ h, put_text) (refl, refl))

pub length-hex : (s : List ℕ) → length (hex_text s) ≡ 2 * length s
unfolding hex_text
length-hex [] = refl
length-hex (b ∷ bs) = omega (arith, length-hex bs)

pub some-text : (s : List ℕ) → (length s ≡ 0 → ⊥) → bytes_text s ≡ hex_text s
some-text [] h = absurd (h refl)
some-text (b ∷ bs) h = refl

pub no_text : (s : List ℕ) → length s ≡ 0 → bytes_text s ≡ 45 ∷ []
no_text [] h = refl
no_text (b ∷ bs) h = absurd (omega arith)
