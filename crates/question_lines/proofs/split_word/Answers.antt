-- Without a space the text is its own word, and nothing follows.
use Rattle.std.proofs.Common.{sym, ◌∙◌}
use Rattle.question_lines.proofs.Laws.{last_word}
use Rattle.question_lines.proofs.split_word.Goals as goal

pub returns-then-gaps-eq0 : goal.returns-then-gaps-eq0
returns-then-gaps-eq0 c =
    let last = last_word c.args.s.now (sym c.requires ∙ c.if-gaps-eq0.true) in
    record { word = last.0; rest = c.first.ensures ∙ last.1 }
