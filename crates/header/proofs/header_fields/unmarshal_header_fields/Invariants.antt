-- The loop is `many` of the fields, and of each code is held what the fields read so far say.
use Prim.Native.Nat.{ℕ, ◌≤◌, ◌-◌}
use mathlib.Core.Path.{◌≡◌}
use lib.ListN.{length, get_or, take}
use Rattle.header.specs.HeaderFields.{unseen}
use Rattle.header.proofs.header_fields.TableLaws.{Run}
use Rattle.header.proofs.header_fields.unmarshal_header_fields.Given as goal

abbrev pub invariant-loop-at : goal.invariant-loop-at
invariant-loop-at l =
    (l.first ≤ l.at) × (l.at ≤ l.end) × (length l.seen ≡ 10) × ((k : ℕ) → (get_or l.seen k unseen).count ≤ l.at)
    × Run l.order (take l.end l.buf) (l.end - l.first) l.first l.seen l.at

abbrev pub decreases-loop-at : goal.decreases-loop-at
decreases-loop-at l = l.end - l.at
