-- From a reader inside a buffer to the answer of an entry point.
use Rattle.std.specs.Prelude.{ℕ, ◌-◌, ◌≤◌, Result, Ok, Err}
use Rattle.meaning.specs.declared.Place.{Place}
use Rattle.meaning.specs.declared.Refusal.{Refusal}
use Rattle.meaning.specs.declared.Length.{Length}
use Rattle.meaning.specs.ReadValue.{taken}

-- no reader goes back
abbrev pub Past : ℕ → Result Place Refusal → Type 0
Past off (Ok p) = off ≤ p.0
Past off (Err x) = Unit {0}

-- an entry point answers with a length, not a place
abbrev pub taken_from : ℕ → Result Place Refusal → Result Length Refusal
taken_from off (Ok p) = taken (p.0 - off)
taken_from off (Err x) = Err x
