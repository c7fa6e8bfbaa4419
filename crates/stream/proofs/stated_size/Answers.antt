-- Four parts, each read as the definition reads it.
use native.Mathlib.Omega.{arith}
use mathlib.Core.Path.{◌∙◌}
use Rattle.types.proofs.CodeLaws.{align-struct, struct-aligns}
use Rattle.stream.proofs.Laws.{gap-eight, gap-small, stated-least, stated-is}
use Rattle.stream.proofs.stated_size.Goals as goal

pub returns-then-buf-lt16 : goal.returns-then-buf-lt16
returns-then-buf-lt16 c = stated-least _ c.if-buf-lt16.true

pub overflow_add-result : goal.overflow_add-result
overflow_add-result c =
    let eight = gap-eight _ c.gap.ensures (c.align.ensures ∙ align-struct) in
    omega (arith, gap-small c.gap.result _ eight, c.load32.ensures.small)

pub overflow_add-result-2 : goal.overflow_add-result-2
overflow_add-result-2 c =
    let eight = gap-eight _ c.gap.ensures (c.align.ensures ∙ align-struct) in
    omega (arith, gap-small c.gap.result _ eight, c.load32.ensures.small, c.load32-2.ensures.small)

pub returns : goal.returns
returns c =
    let eight = gap-eight _ c.gap.ensures (c.align.ensures ∙ align-struct) in
    stated-is _ _ _ _ _ c.if-buf-lt16.false c.byteorder-order.ensures c.load32.ensures.is eight c.load32-2.ensures.is

pub gap-requires : goal.gap-requires
gap-requires c = struct-aligns c.align.ensures
