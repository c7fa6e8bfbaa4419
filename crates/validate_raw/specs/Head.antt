-- An array up to its first element.
use Rattle.std.specs.Prelude.{ℕ, ◌+◌, Bool, true, false, leb, Result, Ok, Err}
use Rattle.meaning.specs.declared.Order.{Order}
use Rattle.meaning.specs.declared.Fault.TheVariants.{NotEnoughBytesForCollection}
use Rattle.meaning.specs.Faults.{refusal}
use Rattle.meaning.specs.Reader.{Res, got, fault, R, ret, ◌>>=◌, ◌>>◌, ahead}
use Rattle.meaning.specs.ReadValue.{padding, length_r}
use Rattle.meaning.specs.declared.Part.{Part}
use Rattle.meaning.specs.declared.Refusal.{Refusal}

-- n bytes of elements: that they lie ahead, and the padding to the first
unfoldable pub lying_r : ℕ → ℕ → R ℕ
lying_r a n = ahead n (padding a) >> ret n

-- an array up to its first element: its length
unfoldable pub head_r : Order → ℕ → R ℕ
head_r o a = padding 4 >> (length_r o >>= λ n. lying_r a n)

abbrev pub inside_if : Bool → ℕ → ℕ → Result Part Refusal
inside_if true f n = Ok (record { 0 = record { 0 = f }; 1 = record { 0 = n } })
inside_if false f n = Err (refusal NotEnoughBytesForCollection f)

-- where an array's contents begin, and how long they are: they must end by `end`
abbrev pub opened_of : ℕ → Res ℕ → Result Part Refusal
opened_of end (got n f) = inside_if (leb (f + n) end) f n
opened_of end (fault x) = Err x
