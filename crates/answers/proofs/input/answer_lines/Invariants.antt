-- Each line begins behind the end of the one before.
use Rattle.std.proofs.Common.{◌-◌, ◌≤◌, length}
use Rattle.answers.proofs.input.answer_lines.Given as goal

abbrev pub invariant-loop-end : goal.invariant-loop-end
invariant-loop-end g l = (l.start ≤ l.end) × (l.end ≤ length l.block)

abbrev pub decreases-loop-end : goal.decreases-loop-end
decreases-loop-end g l = length l.block - l.end
