-- A value of fixed width with its kind: document 01, port order 6, the value reader.
use Rattle.std.specs.Prelude.{ℕ, ◌-◌, ◌^◌, true, false, List, length, leb, ltb, eqb, ℤ, pos, negsuc, Result, Ok, Err}
use Rattle.std.specs.Float.{binary64}
use Rattle.std.specs.Float.Ieee.{nan_bits, of_bits}
use Rattle.meaning.specs.declared.Order.{Order}
use Rattle.meaning.specs.declared.Fault.TheVariants.{BadOffset, BadArgument}
use Rattle.meaning.specs.declared.FixedValue.{FixedValue}
use Rattle.meaning.specs.declared.FixedValue.TheVariants.{Byte, Boolean, Int16, Uint16, Int32, Uint32, Int64, Uint64, Double, Nan, UnixFd}
use Rattle.meaning.specs.declared.Refusal.{Refusal}
use Rattle.meaning.specs.Faults.{refusal}
use Rattle.meaning.specs.Reader.{Res, got, fault}
use Rattle.meaning.specs.Types.{Fix, byte, bool, i16, u16, i32, u32, i64, u64, dbl, fd, fix, str, path, sig, base, arr, dict, struct, variant}
use Rattle.meaning.specs.Signature.{parse}
use Rattle.meaning.specs.Text.{pick}
use Rattle.meaning.specs.ReadValue.{base_r, Opt, the, not1, only_one}

-- "signed ones are two's complement": of k bits, n itself below 2 ^ (k - 1), else n - 2 ^ k, which is -(1 + (2 ^ k - 1 - n))
abbrev pub signed : ℕ → ℕ → ℤ
signed k n = pick (ltb n (2 ^ (k - 1))) (pos n) (negsuc (2 ^ k - 1 - n))

-- "A double comes out as that double, and a NaN as a case of its own with its 64 bits"
abbrev pub double : ℕ → FixedValue
double n = pick (nan_bits binary64 n) (Nan n) (Double (of_bits binary64 n))

-- the value of a type whose bits are n
unfoldable pub fixed_value : Fix → ℕ → FixedValue
fixed_value byte n = Byte n
fixed_value bool n = Boolean (eqb n 1)
fixed_value i16 n = Int16 (signed 16 n)
fixed_value u16 n = Uint16 n
fixed_value i32 n = Int32 (signed 32 n)
fixed_value u32 n = Uint32 n
fixed_value i64 n = Int64 (signed 64 n)
fixed_value u64 n = Uint64 n
fixed_value dbl n = double n
fixed_value fd n = UnixFd n

-- "(any other type is 26)"
pub data OptFix : Type 0 where
  the_fix : Fix → OptFix
  not_fix : OptFix

abbrev pub only_fix : Opt → OptFix
only_fix not1 = not_fix
only_fix (the (base (fix c))) = the_fix c
only_fix (the (base str)) = not_fix
only_fix (the (base path)) = not_fix
only_fix (the (base sig)) = not_fix
only_fix (the (arr e)) = not_fix
only_fix (the (dict f k e)) = not_fix
only_fix (the (struct fs)) = not_fix
only_fix (the variant) = not_fix

abbrev pub fixed_from : Fix → Res ℕ → Result FixedValue Refusal
fixed_from c (got n e) = Ok (fixed_value c n)
fixed_from c (fault x) = Err x

-- "A fixed-width value is read out with its kind": 26, 1, then the check's own faults in its order
unfoldable pub read_fixed : Order → List ℕ → List ℕ → ℕ → Result FixedValue Refusal
read_fixed o s b off = elim (only_fix (only_one (parse s))) [
  | the_fix c ↦ elim (leb off (length b)) [ true ↦ fixed_from c (base_r o (fix c) b off) | false ↦ Err (refusal BadOffset off) ]
  | not_fix ↦ Err (refusal BadArgument 0)
]
