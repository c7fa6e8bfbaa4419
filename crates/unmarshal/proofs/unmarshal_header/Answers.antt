-- The first bytes, the table's length, the fields, and what follows them.
use mathlib.Core.Path.{◌∙◌}
use Rattle.meaning.proofs.Passing.{handed-on}
use Rattle.unmarshal.proofs.HeaderLaws.{not-begun, begun, table-short, table-over, table-refused, table-read}
use Rattle.unmarshal.proofs.unmarshal_header.Goals as goal

pub returns-in_err-start : goal.returns-in_err-start
returns-in_err-start c = handed-on _ _ c.from_residual.ensures ∙ not-begun _ _ _ c.fixed.ensures c.in_err-start.was

pub returns-then-buf-lt16 : goal.returns-then-buf-lt16
returns-then-buf-lt16 c = table-short _ _ (begun _ _ _ c.fixed.ensures c.in_ok-start.was) _ c.if-buf-lt16.true c.refuse.ensures

pub returns-then-buf-len : goal.returns-then-buf-len
returns-then-buf-len c =
    let begins = begun _ _ _ c.fixed.ensures c.in_ok-start.was in
    table-over _ _ begins _ c.if-buf-lt16.false c.load32-len.ensures.is _ c.if-buf-len.true c.refuse-then-buf-len.ensures

pub unmarshal_next_message-requires : goal.unmarshal_next_message-requires
unmarshal_next_message-requires c =
    let begins = begun _ _ _ c.fixed.ensures c.in_ok-start.was in
    table-read _ _ begins _ c.if-buf-lt16.false c.load32-len.ensures.is c.if-buf-len.false _ c.unmarshal_header_fields.ensures _ c.in-Ok.is

pub returns-in-Err : goal.returns-in-Err
returns-in-Err c =
    let begins = begun _ _ _ c.fixed.ensures c.in_ok-start.was in
    table-refused _ _ begins _ c.if-buf-lt16.false c.load32-len.ensures.is c.if-buf-len.false _ c.unmarshal_header_fields.ensures _ _
    c.in-Err.is c.moved.ensures
