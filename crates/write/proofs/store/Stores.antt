-- What a copy into a part of the buffer leaves; and the library's bytes of a number, which are in either order those that the meaning names.
use Prim.Native.Nat.{ℕ, zero, suc, ◌+◌, ◌-◌, ◌*◌, ◌/◌, ◌%◌, ◌^◌, ◌≤◌, ◌<◌}
use native.Mathlib.Omega.{arith}
use native.Mathlib.Nat.{pow-suc, pow-zero, div-one, div-div-eq-div-mul, mul_comm, suc-add, zero-add}
use native.Mathlib.Numerals.{add-one}
use mathlib.Core.List.{List, [], ◌∷◌, ◌++◌, reverse, reverse-append}
use mathlib.Core.Path.{◌≡◌, refl, ap, sym, ◌∙◌}
use lib.ListN.{length, take, drop, set, get_or, length-drop}
use lib.Seq.{sets, sets-eq, length-take-le}
use borrow.Rule.Slice.PartMut.{put_mid}
use mir.Syntax.{w64}
use Rattle.std.specs.Int.{byte_at, bytes_low_first, bytes_high_first, to_le_bytes, to_be_bytes}
use Rattle.std.proofs.Common.{append_assoc}
use Rattle.std.specs.Simd.{first_chunks}
use Rattle.std.proofs.lemmas.List.{drop-drop, take_at, drop_at, take_all, length-reverse, take-append-drop}
use Rattle.meaning.specs.Number.{digits, store}
use Rattle.meaning.proofs.NumberLaws.{length-store}
use Rattle.meaning.specs.declared.Order.{Order}
use Rattle.meaning.specs.declared.Order.TheVariants.{Little, Big}

-- a part of the buffer, as long as what replaces it
pub placed : (l xs : List ℕ) (at k : ℕ) → k ≡ length xs → at + length xs ≤ length l → put_mid at k l xs ≡ sets l at xs
placed l xs at k e h =
    ap (λ (n : ℕ). put_mid at n l xs) e
    ∙ ap (λ (r : List ℕ). take at l ++ (xs ++ r)) (drop-drop (length xs) at l)
    ∙ sym (sets-eq xs l at h ∙ append_assoc (take at l) xs (drop (at + length xs) l))

-- one run after the other
pub sets-append : (l xs ys : List ℕ) (at : ℕ) → sets l at (xs ++ ys) ≡ sets (sets l at xs) (at + length xs) ys
sets-append l [] ys at = let e : at + 0 ≡ at = omega arith in rw e
sets-append l (x ∷ xs) ys at =
    let e : at + suc (length xs) ≡ suc at + length xs = omega arith in
    rw e (sets-append (set l at x) xs ys (suc at))

-- the chunks of eight that the library takes a slice apart into
chunk_at : (s : List ℕ) (k i : ℕ) → i < k → get_or (first_chunks 8 k s) i [] ≡ take 8 (drop (8 * i) s)
chunk_at s zero i h = absurd (omega arith)
chunk_at s (suc k) zero h = refl
chunk_at s (suc k) (suc i) h =
    let at : 8 * suc i ≡ 8 + 8 * i = omega arith in
    chunk_at (drop 8 s) k i (omega arith) ∙ rw (drop-drop, at)

-- one turn of a loop: what is left to store is a chunk shorter
pub chunk-turn : (l e m s : List ℕ) (cs : List (List ℕ)) (at i : ℕ) → cs ≡ first_chunks 8 (length s / 8) s → i < length s / 8
    → m ≡ sets l at (get_or cs i []) → sets l at (drop (8 * i) s) ≡ e → sets m (at + 8) (drop (8 * (i + 1)) s) ≡ e
chunk-turn l e m s cs at i front h q p =
    let left = drop (8 * i) s in
    let more = drop (8 * (i + 1)) s in
    let here : get_or cs i [] ≡ take 8 left = rw front (chunk_at s (length s / 8) i h) in
    let next : drop 8 left ≡ more = let a : 8 * i + 8 ≡ 8 * (i + 1) = omega arith in rw (drop-drop, a) refl in
    let long : length (take 8 left) ≡ 8 = length-take-le 8 left (rw length-drop (omega arith)) in
    let whole : take 8 left ++ more ≡ left = ap (λ (r : List ℕ). take 8 left ++ r) (sym next) ∙ take-append-drop 8 left in
    ap (λ (b : List ℕ). sets b (at + 8) more) (q ∙ ap (sets l at) here)
    ∙ ap (λ (k : ℕ). sets (sets l at (take 8 left)) (at + k) more) (sym long)
    ∙ sym (sets-append l (take 8 left) more at)
    ∙ ap (sets l at) whole
    ∙ p

digits-add : (m n x : ℕ) → digits (m + n) x ≡ digits m x ++ digits n (x / 256 ^ m)
unfolding digits
digits-add zero n x = rw (zero-add, pow-zero, div-one)
digits-add (suc m) n x =
    let e : x / 256 / 256 ^ m ≡ x / 256 ^ suc m = rw (div-div-eq-div-mul, pow-suc, mul_comm) in
    rw (suc-add, ← e) (ap (λ (l : List ℕ). x % 256 ∷ l) (digits-add m n (x / 256)))

length-digits : (n x : ℕ) → length (digits n x) ≡ n
unfolding store
length-digits n x = length-store Little n x

-- the library's bytes of a number, the least first and the greatest first
is_byte : (i x : ℕ) → byte_at i x ≡ x / 256 ^ i % 256
is_byte zero x = rw (pow-zero, div-one) refl
is_byte (suc i) x = refl

low_first : (k i x : ℕ) → bytes_low_first i k x ≡ digits k (x / 256 ^ i)
unfolding digits
low_first zero i x = refl
low_first (suc k) i x =
    let e : x / 256 ^ i / 256 ≡ x / 256 ^ suc i = rw (div-div-eq-div-mul, pow-suc) refl in
    rw (is_byte, e, ← low_first k (suc i) x) refl

high_first : (k x : ℕ) → bytes_high_first k x ≡ reverse (digits k x)
unfolding digits
high_first zero x = refl
high_first (suc k) x =
    let e : digits (k + 1) x ≡ digits k x ++ (x / 256 ^ k % 256 ∷ []) = digits-add k 1 x in
    let f : reverse (digits (suc k) x) ≡ x / 256 ^ k % 256 ∷ reverse (digits k x) = ap reverse (rw add-one at e) ∙ reverse-append (digits k x) _ in
    rw (is_byte, high_first k x) (sym f)

-- the first or the last of them are all bytes of a narrower number
module _ (w x : ℕ) (h : w ≤ 8) where
  rest : List ℕ
  rest = digits (8 - w) (x / 256 ^ w)

  parts : digits 8 x ≡ digits w x ++ rest
  unfolding rest
  parts = let e : 8 ≡ w + (8 - w) = omega arith in ap (λ (n : ℕ). digits n x) e ∙ digits-add w (8 - w) x

  pub little_bytes : take w (to_le_bytes w64 x) ≡ store Little w x
  unfolding store
  little_bytes =
      let e : bytes_low_first 0 8 x ≡ digits w x ++ rest = low_first 8 0 x ∙ rw (pow-zero, div-one) parts in
      ap (take w) e ∙ take_at (digits w x) rest w (length-digits w x)

  pub big_bytes : take (8 - (8 - w)) (drop (8 - w) (to_be_bytes w64 x)) ≡ store Big w x
  unfolding store rest
  big_bytes =
      let narrow : List ℕ = reverse (digits w x) in
      let e : bytes_high_first 8 x ≡ reverse rest ++ narrow = high_first 8 x ∙ ap reverse parts ∙ reverse-append (digits w x) rest in
      let before : length (reverse rest) ≡ 8 - w = length-reverse rest ∙ length-digits (8 - w) (x / 256 ^ w) in
      let long : length narrow ≡ w = length-reverse (digits w x) ∙ length-digits w x in
      ap (λ (l : List ℕ). take (8 - (8 - w)) (drop (8 - w) l)) e
      ∙ ap (take (8 - (8 - w))) (drop_at (reverse rest) narrow (8 - w) before)
      ∙ take_all (8 - (8 - w)) narrow (omega arith)

-- a number of one byte is stored the same in both orders
pub one_byte : (o : Order) (x : ℕ) → store o 1 x ≡ x % 256 ∷ []
unfolding store digits
one_byte Little x = refl
one_byte Big x = refl
