-- The word ends where the first space stands.
use mathlib.Core.Path.{sym}
use lib.Seq.{length-take-le}
use Rattle.question_lines.proofs.Laws.{found}
use Rattle.question_lines.proofs.head.Goals as goal

pub slice_bounds-result-end : goal.slice_bounds-result-end
slice_bounds-result-end c =
    sym (length-take-le _ _ c.find-end.ensures.high)

pub returns : goal.returns
returns c =
    rw (← found 32 c.args.s.now _ c.find-end.ensures.place)
