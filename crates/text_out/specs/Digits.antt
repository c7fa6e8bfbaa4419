-- The digits of a number, and of bytes in hexadecimal.
use Rattle.std.specs.Prelude.{ℕ, zero, suc, ◌/◌, ◌%◌, cond, List, [], ◌∷◌, ◌++◌, ltb}
use Rattle.io.specs.Digits.{hex_digit_ascii}

-- two digits for each byte
unfoldable pub hex_text : List ℕ → List ℕ
hex_text [] = []
hex_text (b ∷ bs) = hex_digit_ascii (b / 16) ∷ hex_digit_ascii (b % 16) ∷ hex_text bs

-- the same, and `-` for no bytes
abbrev pub bytes_text : List ℕ → List ℕ
bytes_text [] = 45 ∷ []
bytes_text (b ∷ bs) = hex_text (b ∷ bs)

-- a number's decimal digits, the fewest that hold it, if there are no more than the first argument says
unfoldable pub decimal_within : ℕ → ℕ → List ℕ
decimal_within zero n = []
decimal_within (suc k) n = cond (ltb n 10) (hex_digit_ascii n ∷ []) (decimal_within k (n / 10) ++ (hex_digit_ascii (n % 10) ∷ []))

-- no number has more digits than one more than itself
unfoldable pub decimal : ℕ → List ℕ
decimal n = decimal_within (suc n) n
