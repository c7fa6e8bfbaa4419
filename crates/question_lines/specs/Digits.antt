-- Digits, and what a run of them spells: a decimal number, or bytes in hexadecimal.
use Rattle.std.specs.Prelude.{ℕ, ◌+◌, ◌-◌, ◌*◌, Bool, ◌&&◌, cond, List, [], ◌∷◌, leb, ltb}
use Rattle.std.specs.List.{list_all}

-- what the digit stands for, `0` to `9` and `a` to `f`; 16 for any other byte
abbrev pub digit_of : ℕ → ℕ
digit_of c = cond (leb 48 c && leb c 57) (c - 48) (cond (leb 97 c && leb c 102) (c - 87) 16)

-- each is a digit below the base
abbrev pub all_digits : ℕ → List ℕ → Bool
all_digits base s = list_all (λ c. ltb (digit_of c) base) s

-- the decimal number that the digits spell, behind a number that is read already
unfoldable pub value_from : ℕ → List ℕ → ℕ
value_from n [] = n
value_from n (c ∷ cs) = value_from (n * 10 + digit_of c) cs

-- the bytes that pairs of digits spell
unfoldable pub pairs : List ℕ → List ℕ
pairs [] = []
pairs (a ∷ []) = []
pairs (a ∷ b ∷ cs) = (digit_of a * 16 + digit_of b) ∷ pairs cs
