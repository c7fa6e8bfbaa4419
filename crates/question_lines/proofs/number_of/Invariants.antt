-- What is left of the digits leads from the number so far to what all of them are.
use Rattle.std.proofs.Common.{◌≡◌, ◌<◌, ◌^◌, drop}
use Rattle.question_lines.proofs.Laws.{rest_of}
use Rattle.question_lines.proofs.number_of.Given as goal

abbrev pub invariant-loop-c : goal.invariant-loop-c
invariant-loop-c l = (l.n < 2 ^ 64) × (rest_of l.n (drop l.c-index l.s) ≡ rest_of 0 l.s)
