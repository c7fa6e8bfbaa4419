-- One law over the width and both orders: storing and loading undo one another.
use Prim.Native.Nat.{ℕ, zero, suc, ◌+◌, ◌*◌, ◌/◌, ◌%◌, ◌^◌, ◌<◌}
use native.Mathlib.Omega.{arith}
use native.Mathlib.Nat.{pow-suc, pow-zero, div-lt_iff_lt-mul, mod-add-div, add-mul-mod_self_left, mod-eq_of_lt, add-mul-div_left, div-eq_of_lt, zero-add}
use mathlib.Core.List.{List, [], ◌∷◌, reverse_aux, reverse-reverse}
use mathlib.Core.Path.{◌≡◌, refl, ap, subst, ◌∙◌}
use lib.ListN.{length, take, drop, get_or, length-reverse}
use lib.Dec.{lit<}
use Rattle.meaning.specs.Number.{digits, value, turn, store, load}
use Rattle.meaning.specs.declared.Order.{Order}
use Rattle.meaning.specs.declared.Order.TheVariants.{Little, Big}

abbrev pub Bytes : List ℕ → Type 0
Bytes [] = Unit {0}
Bytes (c ∷ cs) = (c < 256) × Bytes cs

-- the elements of a slice of bytes
pub bytes_of : (b : List ℕ) → ((i : ℕ) → get_or b i 0 < 256) → Bytes b
bytes_of [] h = tt
bytes_of (c ∷ cs) h = (h 0, bytes_of cs (λ i. h (suc i)))

pub bytes_take : (n : ℕ) (b : List ℕ) → Bytes b → Bytes (take n b)
bytes_take zero b h = tt
bytes_take (suc n) [] h = tt
bytes_take (suc n) (c ∷ cs) h = (h.0, bytes_take n cs h.1)

pub bytes_drop : (n : ℕ) (b : List ℕ) → Bytes b → Bytes (drop n b)
bytes_drop zero b h = h
bytes_drop (suc n) [] h = tt
bytes_drop (suc n) (c ∷ cs) h = bytes_drop n cs h.1

bytes-reverse_aux : (a c : List ℕ) → Bytes a → Bytes c → Bytes (reverse_aux a c)
bytes-reverse_aux [] c h k = k
bytes-reverse_aux (x ∷ xs) c h k = bytes-reverse_aux xs (x ∷ c) h.1 (h.0, k)

bytes-turn : (o : Order) (b : List ℕ) → Bytes b → Bytes (turn o b)
bytes-turn Little b h = h
bytes-turn Big b h = bytes-reverse_aux b [] h tt

turn-turn : (o : Order) (b : List ℕ) → turn o (turn o b) ≡ b
turn-turn Little b = refl
turn-turn Big b = reverse-reverse b

length-turn : (o : Order) (b : List ℕ) → length (turn o b) ≡ length b
length-turn Little b = refl
length-turn Big b = length-reverse b

length_digits : (n x : ℕ) → length (digits n x) ≡ n
unfolding digits
length_digits zero x = refl
length_digits (suc n) x = ap suc (length_digits n (x / 256))

value-digits : (n x : ℕ) → x < 256 ^ n → value (digits n x) ≡ x
unfolding digits value
value-digits zero x h = omega (arith, pow-zero 256)
value-digits (suc n) x h =
    let k : x / 256 < 256 ^ n = (div-lt_iff_lt-mul (lit< tt)).1 (rw pow-suc at h) in
    rw (value-digits n (x / 256) k) (mod-add-div x 256)

digits_value : (b : List ℕ) → Bytes b → digits (length b) (value b) ≡ b
unfolding digits value
digits_value [] h = refl
digits_value (c ∷ cs) h =
    let m : (c + 256 * value cs) % 256 ≡ c = add-mul-mod_self_left c 256 (value cs) ∙ mod-eq_of_lt h.0 in
    let d : (c + 256 * value cs) / 256 ≡ value cs = add-mul-div_left c (value cs) (lit< tt) ∙ ap (λ (x : ℕ). x + value cs) (div-eq_of_lt h.0) ∙ zero-add (value cs) in
    rw (m, d) (ap (λ (r : List ℕ). c ∷ r) (digits_value cs h.1))

value-lt : (b : List ℕ) → Bytes b → value b < 256 ^ length b
unfolding value
value-lt [] h = rw pow-zero (omega arith)
value-lt (c ∷ cs) h = let k = value-lt cs h.1 in rw pow-suc (omega arith)

pub length-store : (o : Order) (n x : ℕ) → length (store o n x) ≡ n
unfolding store
length-store o n x = length-turn o (digits n x) ∙ length_digits n x

pub load_store : (o : Order) (n x : ℕ) → x < 256 ^ n → load o (store o n x) ≡ x
unfolding store load
load_store o n x h = rw turn-turn (value-digits n x h)

pub store-load : (o : Order) (b : List ℕ) → Bytes b → store o (length b) (load o b) ≡ b
unfolding store load
store-load o b h =
    let k : digits (length b) (value (turn o b)) ≡ turn o b = subst (λ (n : ℕ). digits n (value (turn o b)) ≡ turn o b) (length-turn o b) (digits_value (turn o b) (bytes-turn o b h)) in
    rw (k, turn-turn)

pub load_lt : (o : Order) (b : List ℕ) → Bytes b → load o b < 256 ^ length b
unfolding load
load_lt o b h = rw length-turn at (value-lt (turn o b) (bytes-turn o b h))
