-- Each turn takes a case away; behind one without a line end nothing is left.
use Rattle.std.proofs.Common.{◌≤◌, ◌+◌, ◌-◌, length}
use Rattle.trial_text.proofs.cases.Given as goal

abbrev pub invariant-loop-start : goal.invariant-loop-start
invariant-loop-start g l = l.start ≤ length l.input + 1

abbrev pub decreases-loop-start : goal.decreases-loop-start
decreases-loop-start g l = length l.input + 1 - l.start
