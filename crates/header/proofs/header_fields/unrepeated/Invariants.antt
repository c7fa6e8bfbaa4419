-- None of the codes so far was seen twice.
use Prim.Native.Nat.{ℕ, ◌≤◌, ◌<◌}
use mathlib.Core.Path.{◌≡◌}
use mathlib.Core.Bool.{true}
use lib.ListN.{get_or}
use lib.Dec.{leb}
use Rattle.header.specs.HeaderFields.{unseen}
use Rattle.header.proofs.header_fields.unrepeated.Given as goal

abbrev pub invariant-loop-code : goal.invariant-loop-code
invariant-loop-code l = (k : ℕ) → 1 ≤ k → k < l.code → leb (get_or l.seen k unseen).count 1 ≡ true
