-- Each line begins behind the end of the one before.
use Rattle.std.proofs.Common.{◌-◌, ◌≤◌, length}
use Rattle.replay_original.proofs.replay_lines.Given as goal

abbrev pub invariant-loop-end : goal.invariant-loop-end
invariant-loop-end g l = (l.start ≤ l.end) × (l.end ≤ length l.input)

abbrev pub decreases-loop-end : goal.decreases-loop-end
decreases-loop-end g l = length l.input - l.end
