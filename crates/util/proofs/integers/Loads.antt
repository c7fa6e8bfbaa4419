-- Numbers of at most eight bytes by way of eight, in both orders: what is missing is zero.
use Prim.Native.Nat.{ℕ, zero, suc, ◌+◌, ◌-◌, ◌*◌, ◌^◌, ◌≤◌, ◌<◌}
use native.Mathlib.Numerals.{add-one}
use native.Mathlib.Omega.{arith}
use native.Mathlib.Nat.{pow-suc, pow-zero, mul_assoc}
use mathlib.Core.List.{List, [], ◌∷◌, ◌++◌, reverse, reverse-append, append-nil}
use mathlib.Core.Path.{◌≡◌, refl, ap, sym, ◌∙◌}
use lib.ListN.{length, take, drop, replicate, get_or, length-append, length-drop, length-replicate}
use lib.Seq.{drop-cons, length-take-le}
use borrow.Rule.Slice.PartMut.{put_mid}
use Rattle.std.specs.Int.{w64, from_le_bytes, from_be_bytes}
use Rattle.std.proofs.lemmas.List.{take-replicate, drop-replicate, replicate_more}
use Rattle.meaning.specs.Number.{value, load}
use Rattle.meaning.specs.declared.Order.{Order}
use Rattle.meaning.specs.declared.Order.TheVariants.{Little, Big}
use Rattle.meaning.proofs.NumberLaws.{bytes_of}
use Rattle.meaning.proofs.Meets.{stored}
use Rattle.util.specs.Loaded.{Loaded}

-- a list of eight
eight : (P : List ℕ → Type 0) → ((a b c d e f g h : ℕ) → P (a ∷ b ∷ c ∷ d ∷ e ∷ f ∷ g ∷ h ∷ [])) → (xs : List ℕ) → length xs ≡ 8 → P xs
eight P all [] l = absurd (omega arith)
eight P all (a ∷ []) l = absurd (omega arith)
eight P all (a ∷ b ∷ []) l = absurd (omega arith)
eight P all (a ∷ b ∷ c ∷ []) l = absurd (omega arith)
eight P all (a ∷ b ∷ c ∷ d ∷ []) l = absurd (omega arith)
eight P all (a ∷ b ∷ c ∷ d ∷ e ∷ []) l = absurd (omega arith)
eight P all (a ∷ b ∷ c ∷ d ∷ e ∷ f ∷ []) l = absurd (omega arith)
eight P all (a ∷ b ∷ c ∷ d ∷ e ∷ f ∷ g ∷ []) l = absurd (omega arith)
eight P all (a ∷ b ∷ c ∷ d ∷ e ∷ f ∷ g ∷ h ∷ []) l = all a b c d e f g h
eight P all (a ∷ b ∷ c ∷ d ∷ e ∷ f ∷ g ∷ h ∷ i ∷ xs) l = absurd (omega arith)

little-eight : (xs : List ℕ) → length xs ≡ 8 → from_le_bytes w64 xs ≡ load Little xs
unfolding load value
little-eight = eight (λ xs. from_le_bytes w64 xs ≡ load Little xs) (λ a b c d e f g h. omega arith)

big-eight : (xs : List ℕ) → length xs ≡ 8 → from_be_bytes w64 xs ≡ load Big xs
unfolding load value
big-eight = eight (λ xs. from_be_bytes w64 xs ≡ load Big xs) (λ a b c d e f g h. omega arith)

value-append : (xs ys : List ℕ) → value (xs ++ ys) ≡ value xs + value ys * 256 ^ length xs
unfolding value
value-append [] ys = rw pow-zero (omega arith)
value-append (x ∷ xs) ys =
    let e : value ys * (256 ^ length xs * 256) ≡ value ys * 256 ^ length xs * 256 = sym (mul_assoc (value ys) (256 ^ length xs) 256) in
    rw (value-append xs ys, pow-suc, e) (omega arith)

value-zeros : (n : ℕ) → value (replicate n 0) ≡ 0
unfolding value
value-zeros zero = refl
value-zeros (suc n) = rw (value-zeros n)

reverse-zeros : (n : ℕ) → reverse (replicate {A = ℕ} n 0) ≡ replicate n 0
reverse-zeros zero = refl
reverse-zeros (suc n) =
    reverse-append (0 ∷ []) (replicate n 0) ∙ ap (λ (l : List ℕ). l ++ 0 ∷ []) (reverse-zeros n) ∙ rw add-one at (replicate_more {X = ℕ} n 0)

-- zeros at the greater end add nothing
little-zeros : (xs : List ℕ) (n : ℕ) → load Little (xs ++ replicate n 0) ≡ load Little xs
unfolding load
little-zeros xs n = rw (value-append, value-zeros n) (omega arith)

big-zeros : (xs : List ℕ) (n : ℕ) → load Big (replicate n 0 ++ xs) ≡ load Big xs
unfolding load
big-zeros xs n = rw (reverse-append, reverse-zeros n, value-append, value-zeros n) (omega arith)

-- the bytes of the number, which the code finds between `at` and `at + n`
module _ (n : ℕ) (b : List ℕ) (at r : ℕ) (xs : List ℕ) (fits : n ≤ 8) (there : at + n ≤ length b)
    (bytes : (i : ℕ) → get_or b i 0 < 256) (is : xs ≡ take (at + n - at) (drop at b)) where
  own : xs ≡ take n (drop at b)
  own = let e : at + n - at ≡ n = omega arith in is ∙ ap (λ (k : ℕ). take k (drop at b)) e

  long : length xs ≡ n
  long = ap length own ∙ length-take-le n (drop at b) (rw length-drop (omega arith))

  of-load : (o : Order) → r ≡ load o xs → Loaded o n b at r
  of-load o e = record { is = rw (← own) e; small = rw e (stored o n xs b at (bytes_of b bytes) long own).0 }

  pub is-little : r ≡ from_le_bytes w64 (xs ++ drop n (replicate 8 0)) → Loaded Little n b at r
  is-little e =
      let z : xs ++ drop n (replicate 8 0) ≡ xs ++ replicate (8 - n) 0 = rw drop-replicate in
      let l : length (xs ++ replicate (8 - n) 0) ≡ 8 = simp (length-append, length-replicate) (omega (arith, long)) in
      of-load Little (e ∙ ap (from_le_bytes w64) z ∙ little-eight _ l ∙ little-zeros xs (8 - n))

  pub is-big : r ≡ from_be_bytes w64 (put_mid (8 - n) (8 - (8 - n)) (replicate 8 0) xs) → Loaded Big n b at r
  is-big e =
      let gone : 8 - (8 - n) - (8 - (8 - n)) ≡ 0 = omega arith in
      let z : put_mid (8 - n) (8 - (8 - n)) (replicate 8 0) xs ≡ replicate (8 - n) 0 ++ xs = rw (take-replicate {X = ℕ} (8 - n) 8 0 (omega arith), drop-replicate {X = ℕ} (8 - n) 8 0, drop-replicate {X = ℕ} (8 - (8 - n)) (8 - (8 - n)) 0, gone, append-nil) in
      let l : length (replicate (8 - n) 0 ++ xs) ≡ 8 = simp (length-append, length-replicate) (omega (arith, long)) in
      of-load Big (e ∙ ap (from_be_bytes w64) z ∙ big-eight _ l ∙ big-zeros xs (8 - n))

-- a byte is a number of one byte, in either order
pub single : (o : Order) (b : List ℕ) (at x : ℕ) → at < length b → x ≡ get_or b at 0 → x < 256 → Loaded o 1 b at x
unfolding load value
single Little b at x h e l = record { is = rw (drop-cons b at 0 h) (omega arith); small = l }
single Big b at x h e l = record { is = rw (drop-cons b at 0 h) (omega arith); small = l }
