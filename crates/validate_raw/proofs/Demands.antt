-- Demands 2 and 3 of what `validate_marshalled` answers: of every call whose answer meets its contract, as the checker generates it.
use Prim.Native.Nat.{ℕ, suc, ◌<◌}
use mathlib.Core.List.{List, [], ◌∷◌}
use mathlib.Core.Path.{ap}
use lib.ListN.{get_or}
use Rattle.meaning.proofs.NumberLaws.{Bytes}
use Rattle.meaning.proofs.Promises.{Told, told_of, Answered, ValueAsked, ValueDemands, value-demands}
use Rattle.validate_raw.proofs.validate_marshalled.Reads as validate-marshalled

-- a slice of bytes holds bytes: the index rule of a `&[u8]` says so of each
pub slice-bytes : (b : List ℕ) → ((i : ℕ) → get_or b i 0 < 256) → Bytes b
slice-bytes [] h = tt
slice-bytes (c ∷ cs) h = (h 0, slice-bytes cs (λ i. h (suc i)))

abbrev pub Call : Type 0
Call = Answered validate-marshalled.Learnt

abbrev pub asked : Call → ValueAsked
asked c = record {
  order = c.args.0;
  sig = c.args.1.1.1.0.now;
  buf = c.args.1.1.0.now;
  off = c.args.1.0.0;
}

abbrev pub told : Call → Told
told c = told_of c.answer

pub demands : ValueDemands asked told
demands = value-demands asked told (λ c. ap told_of c.meets)
