-- The three cases of the next message, in numbers.
use mathlib.Core.Path.{◌≡◌, ap, sym, ◌∙◌}
use Rattle.structs.specs.declared.MtAnswer.{MtAnswer}
use Rattle.millettie.specs.Framed.{framed_of, refused_in}
use borrow.Author.Rules.{rules}
use Rattle.millettie.proofs.mt_next_message.Goals as goal

pub returns-in-Whole : goal.returns-in-Whole
returns-in-Whole c =
    c.framed.ensures ∙ ap framed_of (sym c.in-Whole.is ∙ c.next_message.ensures.value)

pub returns-in-Cut : goal.returns-in-Cut
returns-in-Cut c =
    c.framed-in-Cut.ensures ∙ ap framed_of (sym c.in-Cut.is ∙ c.next_message.ensures.value)

pub returns-in-Refused : goal.returns-in-Refused
returns-in-Refused c =
    ap refused_in c.refused-answer.ensures ∙ ap framed_of (sym c.in-Refused.is ∙ c.next_message.ensures.value)
