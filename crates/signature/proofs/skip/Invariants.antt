-- Both loops keep how many bytes are left of the type, counting brackets; a type spelled there ends after that many.
use Prim.Native.Nat.{◌+◌, ◌-◌, ◌≤◌}
use mathlib.Core.Path.{◌≡◌}
use lib.ListN.{length, drop}
use Rattle.signature.proofs.EndLaws.{stop, scan, type_end}
use Rattle.signature.proofs.skip.Given as goal

abbrev pub invariant-loop-i : goal.invariant-loop-i
invariant-loop-i l = l.i + type_end (drop l.i l.sig) ≡ l.at + type_end (drop l.at l.sig)

abbrev pub decreases-loop-i : goal.decreases-loop-i
decreases-loop-i l = length l.sig - l.i

abbrev pub invariant-loop-depth : goal.invariant-loop-depth
invariant-loop-depth l = (l.depth ≤ l.i) × (l.i + stop l.depth (scan (drop l.i l.sig) l.depth) ≡ l.at + type_end (drop l.at l.sig))

abbrev pub decreases-loop-depth : goal.decreases-loop-depth
decreases-loop-depth l = length l.sig - l.i
