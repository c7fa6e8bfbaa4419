-- The brackets that stand open, counted from left to right.
use Rattle.std.specs.Prelude.{ℕ, zero, suc, cond, ◌||◌, eqb}

abbrev pub less : ℕ → ℕ
less zero = zero
less (suc d) = d

-- after the byte c, where d stood open
unfoldable pub bracketed : ℕ → ℕ → ℕ
bracketed c d = cond (eqb c 40 || eqb c 123) (suc d) (cond (eqb c 41 || eqb c 125) (less d) d)
