-- The number of types decides first, then the offset, then the walk.
use native.Mathlib.Omega.{arith}
use mathlib.Core.Path.{sym, ◌∙◌, ap}
use lib.Seq.{take_all}
use Rattle.meaning.proofs.Passing.{handed-on}
use Rattle.validate_raw.proofs.EntryLaws.{front-walked, single, one_type, other-count, beyond, value-past, value-stop}
use Rattle.validate_raw.proofs.validate_marshalled.Goals as goal

pub returns-then-types-ne1 : goal.returns-then-types-ne1
returns-then-types-ne1 c = other-count _ _ _ _ _ (rw (sym c.parse_description.ensures, sym c.unwrap_or-types.ensures) c.if-types-ne1.true) c.refuse.ensures

pub value-requires-clause-typed : goal.value-requires-clause-typed
value-requires-clause-typed c =
    one_type (single _ (rw (sym c.parse_description.ensures, sym c.unwrap_or-types.ensures) c.if-types-ne1.false))

pub returns-then-buf-off : goal.returns-then-buf-off
returns-then-buf-off c =
    let one = single _ (rw (sym c.parse_description.ensures, sym c.unwrap_or-types.ensures) c.if-types-ne1.false) in
    beyond _ _ _ _ _ one c.if-buf-off.true c.refuse-then-buf-off.ensures

pub returns-in_err-past : goal.returns-in_err-past
returns-in_err-past c =
    let one = single _ (rw (sym c.parse_description.ensures, sym c.unwrap_or-types.ensures) c.if-types-ne1.false) in
    let walked = front-walked _ _ _ c.args.buf.now c.args.offset.0 _ c.value.ensures
    (omega arith) (grind (arith, take_all)) in
    handed-on _ _ c.from_residual.ensures ∙ value-stop _ _ _ _ one c.if-buf-off.false _ walked _ c.in_err-past.was

pub overflow_sub-result : goal.overflow_sub-result
overflow_sub-result c =
    let one = single _ (rw (sym c.parse_description.ensures, sym c.unwrap_or-types.ensures) c.if-types-ne1.false) in
    let walked = front-walked _ _ _ c.args.buf.now c.args.offset.0 _ c.value.ensures
    (omega arith) (grind (arith, take_all)) in
    (value-past _ _ c.args.buf.now _ one c.if-buf-off.false _ walked _ c.in_ok-past.was).0

pub returns : goal.returns
returns c =
    let one = single _ (rw (sym c.parse_description.ensures, sym c.unwrap_or-types.ensures) c.if-types-ne1.false) in
    let walked = front-walked _ _ _ c.args.buf.now c.args.offset.0 _ c.value.ensures
    (omega arith) (grind (arith, take_all)) in
    (value-past _ _ c.args.buf.now _ one c.if-buf-off.false _ walked _ c.in_ok-past.was).1
