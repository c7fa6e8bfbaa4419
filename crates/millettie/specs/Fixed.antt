-- What is handed out of a value of a fixed type.
use Rattle.std.specs.Prelude.{Result, Ok, Err}
use Rattle.meaning.specs.declared.FixedValue.{FixedValue}
use Rattle.meaning.specs.declared.Refusal.{Refusal}
use Rattle.meaning.specs.declared.Length.{Length}
use Rattle.read.specs.Bits.{letter_of, bits_of}
use Rattle.structs.specs.Answers.{answer_of, refused}
use Rattle.millettie.specs.declared.MtFixed.{MtFixed}

-- "(answer, kind as the type letter or `N` for a NaN, the 64 bits sign-extended)"; the answer to a value that is read is that of its check
abbrev pub fixed_of : Result FixedValue Refusal → Result Length Refusal → MtFixed
fixed_of (Ok v) c = record { answer = answer_of c; kind = letter_of v; bits = bits_of v }
fixed_of (Err x) c = record { answer = refused x; kind = 0; bits = 0 }
