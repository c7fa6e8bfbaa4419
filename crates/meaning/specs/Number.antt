-- Numbers of any width in both orders, and padding: document 01, port order 1.
use Rattle.std.specs.Prelude.{ℕ, zero, suc, ◌+◌, ◌-◌, ◌*◌, ◌/◌, ◌%◌, Bool, true, ◌&&◌, List, [], ◌∷◌, reverse, eqb}
use Rattle.meaning.specs.declared.Order.{Order}
use Rattle.meaning.specs.declared.Order.TheVariants.{Little, Big}

-- n bytes of x, the least first
unfoldable pub digits : ℕ → ℕ → List ℕ
digits zero x = []
digits (suc n) x = x % 256 ∷ digits n (x / 256)

-- the number that bytes stand for, the least first
unfoldable pub value : List ℕ → ℕ
value [] = 0
value (b ∷ bs) = b + 256 * value bs

-- little-endian: the least significant byte first; big-endian: the greatest first
abbrev pub turn : Order → List ℕ → List ℕ
turn Little bs = bs
turn Big bs = reverse bs

-- the n bytes of x in an order, and the number that bytes stand for
unfoldable pub store : Order → ℕ → ℕ → List ℕ
store o n x = turn o (digits n x)

unfoldable pub load : Order → List ℕ → ℕ
load o bs = value (turn o bs)

-- "Alignment counts from the buffer's first byte": how many bytes lead from off to the next multiple of a
unfoldable pub gap : ℕ → ℕ → ℕ
gap a off = (a - off % a) % a

unfoldable pub zeros : List ℕ → Bool
zeros [] = true
zeros (c ∷ cs) = eqb c 0 && zeros cs
