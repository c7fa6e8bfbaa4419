-- The check in the named order, handed out.
use mathlib.Core.Path.{ap, ◌∙◌}
use Rattle.meaning.specs.declared.Order.{Order}
use Rattle.meaning.specs.ReadValue.{check_value}
use Rattle.structs.specs.Answers.{answer_of}
use borrow.Author.Rules.{rules}
use Rattle.millettie.proofs.mt_check_value.Goals as goal

pub returns : goal.returns
returns c =
    let a = c.args in
    let named = ap (λ (o : Order). check_value o a.sig.now a.buf.now a.offset) c.order.ensures in
    c.of_checked.ensures ∙ ap answer_of (c.validate_marshalled.ensures ∙ named)
