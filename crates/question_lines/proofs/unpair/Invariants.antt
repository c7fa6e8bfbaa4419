-- What is left to store leads to what all of it leads to.
use Rattle.std.proofs.Common.{◌≡◌, ◌*◌, length, drop}
use Rattle.std.proofs.lemmas.List.Edits.{sets}
use Rattle.question_lines.specs.Digits.{pairs}
use Rattle.question_lines.proofs.unpair.Given as goal

abbrev pub invariant-loop-i : goal.invariant-loop-i
invariant-loop-i l = (length l.out ≡ length l.initial.out) × (sets l.out l.i (pairs (drop (2 * l.i) l.s)) ≡ sets l.initial.out 0 (pairs l.s))
