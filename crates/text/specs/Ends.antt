-- What the parts of a reader of text answer.
use Rattle.std.specs.Prelude.{ℕ, ◌+◌, Bool, true, false, List, eqb, Result, Ok, Err}
use Rattle.meaning.specs.Faults.{refusal}
use Rattle.meaning.specs.Text.{no_zero, pick}
use Rattle.meaning.specs.ReadValue.{any}
use Rattle.meaning.specs.declared.Place.{Place}
use Rattle.meaning.specs.declared.Refusal.{Refusal}
use Rattle.meaning.specs.declared.Fault.TheVariants.{MissingTerminator}

-- a signature may hold a zero byte as far as its text goes: the grammar refuses it
abbrev pub zero_test : Bool → List ℕ → Bool
zero_test true s = any s
zero_test false s = no_zero s

-- the byte that ends a text at `stop`, which began at off
abbrev pub ends_at : ℕ → ℕ → ℕ → Result Place Refusal
ends_at byte stop off = pick (eqb byte 0) (Ok (record { 0 = stop + 1 })) (Err (refusal MissingTerminator off))
