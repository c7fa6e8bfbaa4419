-- A value of fixed width as text: ok, the letter of its kind, and the value.
use Rattle.std.specs.Prelude.{ℕ, suc, cond, List, [], ◌∷◌, ◌++◌, ℤ, pos, negsuc, Result, Ok, Err}
use Rattle.std.specs.Float.{binary64, Float}
use Rattle.std.specs.Float.Ieee.{eq, to_bits}
use Rattle.io.specs.Digits.{last_digits}
use Rattle.meaning.specs.declared.FixedValue.{FixedValue}
use Rattle.meaning.specs.declared.FixedValue.TheVariants.{Byte, Boolean, Int16, Uint16, Int32, Uint32, Int64, Uint64, Double, Nan, UnixFd}
use Rattle.meaning.specs.declared.Refusal.{Refusal}
use Rattle.text_out.specs.Digits.{decimal}
use Rattle.answer_text.specs.Texts.{refused_texts}

abbrev pub kind_texts : ℕ → List (List ℕ)
kind_texts c = (111 ∷ 107 ∷ 32 ∷ c ∷ 32 ∷ []) ∷ []

-- a number, or one below zero by its distance from it
abbrev pub signed_texts : ℤ → List (List ℕ)
signed_texts (pos n) = decimal n ∷ []
signed_texts (negsuc n) = (45 ∷ []) ∷ decimal (suc n) ∷ []

-- 64 bits are sixteen digits
abbrev pub bits_texts : ℕ → List (List ℕ)
bits_texts n = last_digits 16 16 n ∷ []

-- a double stands by its bits
abbrev pub double_texts : Float → List (List ℕ)
double_texts x = cond (eq x x) (kind_texts 100 ++ bits_texts (to_bits binary64 x)) (kind_texts 78 ++ bits_texts 9221120237041090560)

-- the letter of the kind is the type's, but N for a NaN; a Boolean is 0 or 1
abbrev pub value_texts : FixedValue → List (List ℕ)
value_texts (Byte n) = kind_texts 121 ++ (decimal n ∷ [])
value_texts (Boolean b) = kind_texts 98 ++ (decimal (cond b 1 0) ∷ [])
value_texts (Int16 z) = kind_texts 110 ++ signed_texts z
value_texts (Uint16 n) = kind_texts 113 ++ (decimal n ∷ [])
value_texts (Int32 z) = kind_texts 105 ++ signed_texts z
value_texts (Uint32 n) = kind_texts 117 ++ (decimal n ∷ [])
value_texts (Int64 z) = kind_texts 120 ++ signed_texts z
value_texts (Uint64 n) = kind_texts 116 ++ (decimal n ∷ [])
value_texts (Double x) = double_texts x
value_texts (Nan n) = kind_texts 78 ++ bits_texts n
value_texts (UnixFd n) = kind_texts 104 ++ (decimal n ∷ [])

abbrev pub fixed_texts : Result FixedValue Refusal → List (List ℕ)
fixed_texts (Ok v) = value_texts v
fixed_texts (Err r) = refused_texts r
