-- Each return is one way through the first 12 bytes.
use mathlib.Core.Path.{◌∙◌}
use Rattle.meaning.proofs.Passing.{handed-on}
use Rattle.header.proofs.fixed_header.HeadLaws.{told, not-told, start-short, start-mark, start-kind, start-read}
use Rattle.header.proofs.fixed_header.fixed.Goals as goal

pub returns-then-buf-lt12 : goal.returns-then-buf-lt12
returns-then-buf-lt12 c = start-short _ _ c.if-buf-lt12.true c.refuse.ensures

pub returns-in_err-order : goal.returns-in_err-order
returns-in_err-order c =
    let mark = not-told _ _ _ _ c.try_from.ensures _ c.in_err-order.was in
    handed-on _ _ c.from_residual.ensures ∙ start-mark _ c.if-buf-lt12.false _ mark.0 mark.1

pub returns-in_err-kind : goal.returns-in_err-kind
returns-in_err-kind c =
    let mark = told _ _ _ _ c.try_from.ensures _ c.in_ok-order.was in
    let number = not-told _ _ _ _ c.try_from-2.ensures _ c.in_err-kind.was in
    handed-on _ _ c.from_residual-in_err-kind.ensures ∙ start-kind _ c.if-buf-lt12.false mark.0 _ number.0 number.1

pub returns : goal.returns
returns c =
    let mark = told _ _ _ _ c.try_from.ensures _ c.in_ok-order.was in
    let number = told _ _ _ _ c.try_from-2.ensures _ c.in_ok-kind.was in
    start-read _ c.if-buf-lt12.false mark.0 number.0 _ _ _ _ mark.1 number.1 c.load32.ensures.is c.load32-2.ensures.is
