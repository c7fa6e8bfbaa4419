-- Each array that the type completes is closed by the loop, and the mark that is left takes the type as the grammar's stack does.
use Prim.Native.Nat.{◌≤◌}
use Rattle.meaning.specs.Signature.{Step}
use Rattle.signature.specs.Marks.{Whole}
use Rattle.signature.proofs.MarkLaws.{placed}
use Rattle.signature.proofs.put.Given as goal

abbrev pub invariant-loop-top : goal.invariant-loop-top
invariant-loop-top l = (l.top ≤ l.state.top) × ((x : Step) → Whole x l.marks l.state → Whole x l.marks (placed l.state l.top l.arrays))

abbrev pub decreases-loop-top : goal.decreases-loop-top
decreases-loop-top l = l.top
