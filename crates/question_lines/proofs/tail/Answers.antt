-- What follows the word begins a byte further on; where there is no space, nothing is left.
use Rattle.std.proofs.Common.{◌+◌, sym, ◌∙◌, arith}
use Rattle.std.proofs.lemmas.List.{take_rest, drop_all}
use Rattle.question_lines.specs.Words.{word_end}
use Rattle.question_lines.proofs.Laws.{found}
use Rattle.question_lines.proofs.tail.Goals as goal

pub returns-then-gap-s : goal.returns-then-gap-s
returns-then-gap-s c =
    let f = c.find-gap in
    let s = c.args.s.now in
    take_rest s (f.result + 1) ∙ rw (← found 32 s _ f.ensures.place)

pub returns-else-gap-s : goal.returns-else-gap-s
returns-else-gap-s c =
    let f = c.find-gap in
    let s = c.args.s.now in
    let past = c.if-gap-s.false in
    take_rest s f.result ∙ drop_all f.result s past ∙ sym (drop_all (word_end s + 1) s (omega (arith, found 32 s f.result f.ensures.place, past)))
