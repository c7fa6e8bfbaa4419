-- An empty signature has its own fault; any other is read as types.
use mathlib.Core.Path.{ap, sym, ◌∙◌}
use Rattle.std.specs.Prelude.{Err}
use Rattle.signature.proofs.RunLaws.{check-empty, check-some}
use Rattle.signature.proofs.validate_signature.Goals as goal

pub returns-then-sig-eq0 : goal.returns-then-sig-eq0
returns-then-sig-eq0 c = ap Err c.refuse.ensures ∙ sym (check-empty c.args.sig.now c.if-sig-eq0.true)

pub returns : goal.returns
returns c = c.parse_description.ensures ∙ sym (check-some c.args.sig.now c.if-sig-eq0.false)
