-- What is handed out of the next message of a stream.
use Rattle.std.specs.Prelude.{ℕ}
use Rattle.stream.specs.declared.Next.{Next}
use Rattle.stream.specs.declared.Next.TheVariants.{Whole, Cut, Refused}
use Rattle.structs.specs.Answers.{refused}
use Rattle.structs.specs.declared.MtAnswer.{MtAnswer}
use Rattle.millettie.specs.declared.MtNext.{MtNext}

-- the interface that include/millettie.h describes
abbrev pub interface : ℕ
interface = 2

abbrev pub length_in : ℕ → ℕ → MtNext
length_in state n = record { state = state; number = 0; position = 0; length = n }

abbrev pub refused_in : MtAnswer → MtNext
refused_in a = record { state = 2; number = a.number; position = a.position; length = 0 }

-- "whole with its length, cut off with the length to wait for, or refused"
abbrev pub framed_of : Next → MtNext
framed_of (Whole h) = length_in 0 h.length.0
framed_of (Cut s) = length_in 1 s.0
framed_of (Refused x) = refused_in (refused x)
