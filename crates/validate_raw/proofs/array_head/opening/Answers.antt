-- Each return is one way through `head_r`: the padding to 4, the length, and what `contents` says of the rest.
use mathlib.Core.Path.{sym, ◌∙◌}
use native.Mathlib.Omega.{arith}
use Rattle.types.proofs.CodeLaws.{align-array, size-length, array-aligns}
use Rattle.meaning.proofs.Passing.{handed-on}
use Rattle.validate_raw.proofs.array_head.OpenLaws.{head-stop, head-short, head_read}
use Rattle.util.proofs.Pads.{padded-within}
use Rattle.validate_raw.proofs.array_head.opening.Goals as goal

pub padded-requires : goal.padded-requires
padded-requires c = record { inside = c.requires.inside; alignment = array-aligns c.align.ensures }

pub overflow_sub-buf : goal.overflow_sub-buf
overflow_sub-buf c = (padded-within _ _ _ _ _ c.requires.inside c.padded.ensures c.in_ok-at.was).1

pub load32-len-requires : goal.load32-len-requires
load32-len-requires c =
    let r = padded-within _ _ _ _ _ c.requires.inside c.padded.ensures c.in_ok-at.was in
    let four = c.size-field.ensures ∙ size-length in
    omega arith

pub contents-requires : goal.contents-requires
contents-requires c =
    let r = padded-within _ _ _ _ _ c.requires.inside c.padded.ensures c.in_ok-at.was in
    let four = c.size-field.ensures ∙ size-length in
    record { inside = omega arith; alignment = c.requires.alignment }

pub returns-then-buf-at : goal.returns-then-buf-at
returns-then-buf-at c =
    let r = padded-within _ _ _ _ _ c.requires.inside c.padded.ensures c.in_ok-at.was in
    head-short _ _ _ _ _ (c.align.ensures ∙ align-array) _ (sym c.padded.ensures ∙ c.in_ok-at.was)
    _ (c.size-field.ensures ∙ size-length) _ (omega arith) c.refuse.ensures

pub returns : goal.returns
returns c =
    let r = padded-within _ _ _ _ _ c.requires.inside c.padded.ensures c.in_ok-at.was in
    head_read _ _ _ _ _ (c.align.ensures ∙ align-array) _ (sym c.padded.ensures ∙ c.in_ok-at.was)
    _ (c.size-field.ensures ∙ size-length) _ _ (omega arith) c.load32-len.ensures.is c.contents.ensures

pub returns-in_err-at : goal.returns-in_err-at
returns-in_err-at c =
    handed-on _ _ c.from_residual.ensures
    ∙ head-stop _ _ _ _ _ (c.align.ensures ∙ align-array) _ (sym c.padded.ensures ∙ c.in_err-at.was)
