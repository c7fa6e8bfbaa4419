-- A header's length is the message's.
use mathlib.Core.Path.{sym, ◌∙◌, ap}
use Rattle.meaning.proofs.Passing.{handed-on}
use Rattle.unmarshal.proofs.check_message.CheckedLaws.{checked_from, check-is}
use Rattle.unmarshal.proofs.check_message.check_message.Goals as goal

pub returns : goal.returns
returns c = sym (ap checked_from c.in_ok-header.was) ∙ check-is _ _ c.unmarshal_header.ensures

pub returns-in_err-header : goal.returns-in_err-header
returns-in_err-header c = handed-on _ _ c.from_residual.ensures ∙ sym (ap checked_from c.in_err-header.was) ∙ check-is _ _ c.unmarshal_header.ensures
