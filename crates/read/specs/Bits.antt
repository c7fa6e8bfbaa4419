-- A value of fixed width as a letter and 64 bits, for those who link the library from C.
use Rattle.std.specs.Prelude.{ℕ, ◌-◌, ◌^◌, ℤ, pos, negsuc, Float}
use Rattle.std.specs.Float.{binary64}
use Rattle.std.specs.Float.Ieee.{is_nan, to_bits}
use Rattle.meaning.specs.Text.{pick}
use Rattle.meaning.specs.declared.FixedValue.{FixedValue}
use Rattle.meaning.specs.declared.FixedValue.TheVariants.{Byte, Boolean, Int16, Uint16, Int32, Uint32, Int64, Uint64, Double, Nan, UnixFd}

-- "kind as the type letter or `N` for a NaN"
abbrev pub letter_of : FixedValue → ℕ
letter_of (Byte n) = 121
letter_of (Boolean b) = 98
letter_of (Int16 n) = 110
letter_of (Uint16 n) = 113
letter_of (Int32 n) = 105
letter_of (Uint32 n) = 117
letter_of (Int64 n) = 120
letter_of (Uint64 n) = 116
letter_of (Double x) = 100
letter_of (Nan n) = 78
letter_of (UnixFd n) = 104

-- "the 64 bits sign-extended": two's complement of 64 bits
unfoldable pub extended : ℤ → ℕ
extended (pos n) = n
extended (negsuc m) = 2 ^ 64 - 1 - m

-- the bits of a double; no double that is read is a NaN, which stands by its bits in a case of its own
unfoldable pub double_bits : Float → ℕ
double_bits x = pick (is_nan x) 0 (to_bits binary64 x)

abbrev pub bits_of : FixedValue → ℕ
bits_of (Byte n) = n
bits_of (Boolean b) = pick b 1 0
bits_of (Int16 n) = extended n
bits_of (Uint16 n) = n
bits_of (Int32 n) = extended n
bits_of (Uint32 n) = n
bits_of (Int64 n) = extended n
bits_of (Uint64 n) = n
bits_of (Double x) = double_bits x
bits_of (Nan n) = n
bits_of (UnixFd n) = n
