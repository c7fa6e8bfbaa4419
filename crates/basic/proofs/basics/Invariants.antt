-- The loop over basic values is `many` of their reader, turn by turn.
use mathlib.Core.Path.{◌≡◌}
use Prim.Native.Nat.{◌≤◌, ◌-◌}
use lib.ListN.{length}
use Rattle.meaning.specs.Types.{Base}
use Rattle.meaning.specs.Signature.{code}
use Rattle.meaning.specs.ReadValue.{base_r}
use Rattle.meaning.proofs.Loop.{Onward}
use Rattle.basic.proofs.basics.Given as goal

abbrev pub invariant-loop-past : goal.invariant-loop-past
invariant-loop-past l =
    (l.first ≤ l.past.0) × (l.past.0 ≤ length l.buf)
    × ((b : Base) → l.k ≡ code b → Onward (base_r l.order b) l.buf (length l.buf - l.first) l.first l.past.0)

abbrev pub decreases-loop-past : goal.decreases-loop-past
decreases-loop-past l = length l.buf - l.past.0
