-- What is left of the run gives the whole run.
use Rattle.signature.proofs.RunLaws.{Going}
use Rattle.signature.proofs.parse_bytes.Given as goal

abbrev pub invariant-loop-c : goal.invariant-loop-c
invariant-loop-c l = Going l.sig l.marks l.state l.c-index
