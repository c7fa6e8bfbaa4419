-- The padding, the code, and then what follows it.
use mathlib.Core.Path.{refl, sym, ◌∙◌}
use native.Mathlib.Omega.{arith}
use lib.Seq.{length-take-le}
use Rattle.meaning.proofs.Passing.{handed-on}
use Rattle.types.proofs.CodeLaws.{align-struct, struct-aligns}
use Rattle.util.proofs.Pads.{padded-within}
use Rattle.header.proofs.header_field.FieldLaws.{field-stop, field-short, field-read}
use Rattle.header.proofs.header_field.unmarshal_header_field.Goals as goal

pub padded-requires : goal.padded-requires
padded-requires c =
    let lent = length-take-le c.args.end c.args.buf.now c.requires.1 in
    record { inside = omega (arith, lent, c.requires.0); alignment = struct-aligns c.align.ensures }

pub content-requires : goal.content-requires
content-requires c =
    let lent = length-take-le c.args.end c.args.buf.now c.requires.1 in
    let r = padded-within _ _ _ _ _ (omega (arith, lent, c.requires.0)) c.padded.ensures c.in_ok-at.was in
    omega (arith, lent, r.0, r.1, c.if-end-at.false)

pub returns-in_err-at : goal.returns-in_err-at
returns-in_err-at c =
    handed-on _ _ c.from_residual.ensures ∙ field-stop _ _ _ _ (c.align.ensures ∙ align-struct) _ (sym c.padded.ensures ∙ c.in_err-at.was)

pub returns-then-end-at : goal.returns-then-end-at
returns-then-end-at c =
    let lent = length-take-le c.args.end c.args.buf.now c.requires.1 in
    let reached = sym c.padded.ensures ∙ c.in_ok-at.was in
    field-short _ _ _ _ (c.align.ensures ∙ align-struct) _ reached _ (omega (arith, lent, c.if-end-at.true)) c.refuse.ensures

pub returns : goal.returns
returns c =
    let lent = length-take-le c.args.end c.args.buf.now c.requires.1 in
    let reached = sym c.padded.ensures ∙ c.in_ok-at.was in
    field-read _ _ _ _ (c.align.ensures ∙ align-struct) _ reached _ _ (omega (arith, lent, c.if-end-at.false)) refl c.content.ensures
