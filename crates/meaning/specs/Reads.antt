-- What the entry points that read an integer or padding answer: document 01, port order 1.
use Rattle.std.specs.Prelude.{ℕ, true, false, List, length, leb, Result, Ok, Err}
use Rattle.meaning.specs.declared.Order.{Order}
use Rattle.meaning.specs.declared.Fault.TheVariants.{BadOffset, BadAlignment}
use Rattle.meaning.specs.declared.Refusal.{Refusal}
use Rattle.meaning.specs.declared.Length.{Length}
use Rattle.meaning.specs.Faults.{refusal}
use Rattle.meaning.specs.Number.{load}
use Rattle.meaning.specs.Reader.{Res, got, fault, R, ret, here, ◌>>=◌, bytes}
use Rattle.meaning.specs.ReadValue.{padding, no, check_at}
use Rattle.meaning.specs.Writers.{is_alignment}

-- an unsigned number of w bytes
unfoldable pub unsigned_r : Order → ℕ → R ℕ
unsigned_r o w = here >>= λ p. bytes w p >>= λ xs. ret (load o xs)

abbrev pub integer_of : Res ℕ → Result ℕ Refusal
integer_of (got n e) = Ok n
integer_of (fault x) = Err x

-- 1, then 2 at the offset
unfoldable pub read_integer : Order → ℕ → List ℕ → ℕ → Result ℕ Refusal
read_integer o w b off = elim (leb off (length b)) [ true ↦ integer_of (unsigned_r o w b off) | false ↦ Err (refusal BadOffset off) ]

-- 1, then 24, then the padding's own faults: its length, or the refusal
unfoldable pub check_padding : ℕ → List ℕ → ℕ → Result Length Refusal
check_padding a b off = elim (leb off (length b)) [ true ↦ elim (is_alignment a) [ true ↦ check_at (padding a) b off | false ↦ no BadAlignment off ] | false ↦ no BadOffset off ]
