-- The loop is `many` of the fields, and of each code is held what the fields read so far say.
use mathlib.Core.Path.{refl, ap, ◌∙◌}
use native.Mathlib.Omega.{arith}
use lib.ListN.{length-set}
use lib.Seq.{length-take-le}
use Rattle.std.specs.Prelude.{Ok}
use Rattle.meaning.specs.declared.Fields.{Fields}
use Rattle.meaning.proofs.Passing.{handed-on}
use Rattle.meaning.proofs.NumberLaws.{bytes_of, bytes_take}
use Rattle.header.specs.HeaderFields.{unseen}
use Rattle.header.proofs.header_fields.TableLaws.{run-start, run-kept, run-passed, run-refused, run-incomplete, run-ended, came, stops, further, blank, few}
use Rattle.header.proofs.header_fields.unmarshal_header_fields.Goals as goal

pub loop-at-init : goal.loop-at-init
loop-at-init c =
    let lent = length-take-le c.args.end c.args.buf.now c.requires.1 in (
      omega arith,
      c.requires.0,
      refl,
      λ k. omega (arith, ap (λ s. s.count) (blank 10 k unseen)),
      run-start _ _ _ _ _ (omega (arith, lent, c.requires.0)) (λ k. blank 10 k unseen),
    )

pub unmarshal_header_field-requires : goal.unmarshal_header_field-requires
unmarshal_header_field-requires c = (c.loop-at.invariant.1, c.requires.1)

-- a code that is kept is below 10
pub bounds-seen-kept : goal.bounds-seen-kept
bounds-seen-kept c = (came _ _ _ _ _ c.unmarshal_header_field.ensures c.in_ok-field.was).small c.in-Some.kept c.in-Some.is

pub offset_bounds-seen-kept : goal.offset_bounds-seen-kept
offset_bounds-seen-kept c = omega (arith, (came _ _ _ _ _ c.unmarshal_header_field.ensures c.in_ok-field.was).small c.in-Some.kept c.in-Some.is)

pub bounds-seen-kept-in-Some : goal.bounds-seen-kept-in-Some
bounds-seen-kept-in-Some c = (came _ _ _ _ _ c.unmarshal_header_field.ensures c.in_ok-field.was).small c.in-Some.kept c.in-Some.is

pub offset_bounds-seen-kept-in-Some : goal.offset_bounds-seen-kept-in-Some
offset_bounds-seen-kept-in-Some c = omega (arith, (came _ _ _ _ _ c.unmarshal_header_field.ensures c.in_ok-field.was).small c.in-Some.kept c.in-Some.is)

-- each field has a byte at least
pub loop-at-smaller : goal.loop-at-smaller
loop-at-smaller c =
    let h = came _ _ _ _ _ c.unmarshal_header_field.ensures c.in_ok-field.was in
    let lent = length-take-le c.args.end c.args.buf.now c.requires.1 in
    let y = bytes_take c.args.end c.args.buf.now (bytes_of c.args.buf.now (λ i. omega (arith, c.type_inv.buf i))) in
    let m = further _ _ y _ _ _ h (omega (arith, lent, c.loop-at-test.true)) in
    omega (arith, m.0, m.1, lent, c.loop-at-test.true)

pub loop-at-smaller-in-Some : goal.loop-at-smaller-in-Some
loop-at-smaller-in-Some c =
    let h = came _ _ _ _ _ c.unmarshal_header_field.ensures c.in_ok-field.was in
    let lent = length-take-le c.args.end c.args.buf.now c.requires.1 in
    let y = bytes_take c.args.end c.args.buf.now (bytes_of c.args.buf.now (λ i. omega (arith, c.type_inv.buf i))) in
    let m = further _ _ y _ _ _ h (omega (arith, lent, c.loop-at-test.true)) in
    omega (arith, m.0, m.1, lent, c.loop-at-test.true)

pub loop-at-preserved-in-Some : goal.loop-at-preserved-in-Some
loop-at-preserved-in-Some c =
    let a = c.args in
    let h = came _ _ _ _ _ c.unmarshal_header_field.ensures c.in_ok-field.was in
    let lent = length-take-le a.end a.buf.now c.requires.1 in
    let y = bytes_take a.end a.buf.now (bytes_of a.buf.now (λ i. omega (arith, c.type_inv.buf i))) in
    let m = further _ _ y _ _ _ h (omega (arith, lent, c.loop-at-test.true)) in
    let i = c.loop-at.invariant in
    let kept = c.in-Some.kept in
    let next = run-kept _ _ _ _ y _ _ _ _ (omega (arith, lent, c.loop-at-test.true)) h i.4 kept c.in-Some.is i.2 in
    let fewer = few c.loop-at.seen c.loop-at.at _ kept i.2 (h.small kept c.in-Some.is) m.0 i.3 in
    rw c.first_of.ensures (omega (arith, m.0, i.0), omega (arith, m.1, lent), simp length-set i.2, fewer, next)

pub loop-at-preserved : goal.loop-at-preserved
loop-at-preserved c =
    let a = c.args in
    let h = came _ _ _ _ _ c.unmarshal_header_field.ensures c.in_ok-field.was in
    let lent = length-take-le a.end a.buf.now c.requires.1 in
    let y = bytes_take a.end a.buf.now (bytes_of a.buf.now (λ i. omega (arith, c.type_inv.buf i))) in
    let m = further _ _ y _ _ _ h (omega (arith, lent, c.loop-at-test.true)) in
    let i = c.loop-at.invariant in
    let next = run-passed _ _ _ _ y _ _ _ _ (omega (arith, lent, c.loop-at-test.true)) h i.4 c.in_default.not-Some in
    (omega (arith, m.0, i.0), omega (arith, m.1, lent), i.2, λ k. omega (arith, i.3 k, m.0), next)

pub returns-in_err-field : goal.returns-in_err-field
returns-in_err-field c =
    let lent = length-take-le c.args.end c.args.buf.now c.requires.1 in
    let none = stops _ _ _ _ _ c.unmarshal_header_field.ensures c.in_err-field.was in
    handed-on _ _ c.from_residual.ensures ∙ run-refused _ _ _ _ _ _ _ c.loop-at.invariant.4 _ (omega (arith, lent, c.loop-at-test.true)) none

pub returns-then-not-validate_header_fields : goal.returns-then-not-validate_header_fields
returns-then-not-validate_header_fields c =
    let lent = length-take-le c.args.end c.args.buf.now c.requires.1 in
    run-incomplete _ _ _ _ _ _ _ c.loop-at.invariant.4 (omega (arith, lent, c.loop-at-test.false)) _ _ c.validate_header_fields.ensures
    c.if-not-validate_header_fields.true c.refuse.ensures

pub returns : goal.returns
returns c =
    let lent = length-take-le c.args.end c.args.buf.now c.requires.1 in
    let ended = run-ended _ _ _ _ _ _ _ c.loop-at.invariant.4 (omega (arith, lent, c.loop-at-test.false)) _ c.validate_header_fields.ensures c.if-not-validate_header_fields.false in
    ap (λ (f : Fields). Ok f) c.by_code.ensures ∙ ended
