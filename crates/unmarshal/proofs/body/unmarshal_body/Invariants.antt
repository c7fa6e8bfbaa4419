-- The loop takes the types of the signature one by one, and then looks whether the bytes are at their end.
use Prim.Native.Nat.{◌≤◌, ◌-◌}
use lib.ListN.{length}
use Rattle.unmarshal.proofs.body.BodyLaws.{Left}
use Rattle.unmarshal.proofs.body.unmarshal_body.Given as goal

abbrev pub invariant-loop-at : goal.invariant-loop-at
invariant-loop-at l = (l.at.sig.0 ≤ length l.sig) × (l.at.buf.0 ≤ length l.buf) × Left l.order l.sig l.buf l.off l.at.sig.0 l.at.buf.0

abbrev pub decreases-loop-at : goal.decreases-loop-at
decreases-loop-at l = length l.sig - l.at.sig.0
