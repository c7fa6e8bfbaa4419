-- What falls at each call of the cycle is `measure` of CycleLaws: what is left of the levels, of the signature and of the bytes, and a rank. A loop
-- says how far its reader has come.
use Prim.Native.Nat.{ℕ, ◌-◌, ◌≤◌}
use mathlib.Core.List.{List}
use mathlib.Core.Path.{◌≡◌}
use lib.ListN.{length}
use Rattle.meaning.specs.Types.{Ty}
use Rattle.meaning.specs.Places.{TypeAt, FieldsAt}
use Rattle.meaning.specs.ReadValue.{read_var}
use Rattle.meaning.proofs.Loop.{Onward}
use Rattle.validate_raw.specs.Items.{item_of}
use Rattle.validate_raw.specs.Walk.{walked_to, item_r, fields_to}
use Rattle.validate_raw.proofs.walk.CycleLaws.{measure}
use Rattle.validate_raw.proofs.walk.CycleLaws.{Rest}
use Rattle.validate_raw.proofs.walk.+walk.Given as goal

abbrev pub decreases-value : goal.decreases-value
decreases-value l = measure l.left.levels (length l.sig.now - l.at.sig.0) (length l.buf.now - l.at.buf.0) 1

abbrev pub decreases-structure : goal.decreases-structure
decreases-structure l = measure l.left.levels (length l.sig.now - l.at.sig.0) (length l.buf.now - l.at.buf.0) 0

abbrev pub decreases-fields : goal.decreases-fields
decreases-fields l = measure l.left.levels (length l.sig.now - l.at.sig.0) (length l.buf.now - l.at.buf.0) 2

abbrev pub decreases-array : goal.decreases-array
decreases-array l = measure l.left.levels (length l.sig.now - l.at.sig.0) (length l.buf.now - l.at.buf.0) 0

abbrev pub decreases-elements : goal.decreases-elements
decreases-elements l = measure l.left.levels (length l.sig.now - l.at.sig.0) (length l.buf.now - l.at.buf.0) 4

abbrev pub decreases-composites : goal.decreases-composites
decreases-composites l = measure l.left.levels (length l.sig.now - l.at.sig.0) (length l.buf.now - l.at.buf.0) 3

abbrev pub decreases-element : goal.decreases-element
decreases-element l = measure l.left.levels (length l.sig.now - l.at.sig.0) (length l.buf.now - l.at.buf.0) 2

abbrev pub decreases-entry : goal.decreases-entry
decreases-entry l = measure l.left.levels (length l.sig.now - l.at.sig.0) (length l.buf.now - l.at.buf.0) 1

abbrev pub decreases-variant : goal.decreases-variant
decreases-variant l = measure l.left.levels 0 (length l.buf.now - l.off) 0

abbrev pub invariant-composites-loop-past : goal.invariant-composites-loop-past
invariant-composites-loop-past l =
    (l.first ≤ l.past.buf.0) × (l.past.buf.0 ≤ length l.buf)
    × ((u : Ty) (e : ℕ) → TypeAt u l.sig l.i e
    → Onward (item_r l.order (read_var l.order l.left.levels) (item_of u)) l.buf (length l.buf - l.first) l.first l.past.buf.0
    × ((l.past.buf.0 ≡ l.first → ⊥) → l.past.sig.0 ≡ e))

abbrev pub decreases-composites-loop-past : goal.decreases-composites-loop-past
decreases-composites-loop-past l = length l.buf - l.past.buf.0

abbrev pub invariant-fields-loop-order : goal.invariant-fields-loop-order
invariant-fields-loop-order l =
    (l.initial.here.sig.0 ≤ l.here.sig.0) × (l.initial.here.buf.0 ≤ l.here.buf.0) × (l.here.buf.0 ≤ length l.buf)
    × ((ts : List Ty) (e : ℕ) → FieldsAt ts l.sig l.initial.here.sig.0 e
    → Rest l.order l.left.levels l.sig l.buf e
    (walked_to e (fields_to l.order (read_var l.order l.left.levels) ts l.buf l.initial.here.buf.0)) l.here.sig.0 l.here.buf.0)

abbrev pub decreases-fields-loop-order : goal.decreases-fields-loop-order
decreases-fields-loop-order l = length l.sig - l.here.sig.0
