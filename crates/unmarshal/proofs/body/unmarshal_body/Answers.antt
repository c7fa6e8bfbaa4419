-- The loop takes the types of the signature one by one, and then looks whether the bytes are at their end.
use mathlib.Core.Path.{◌∙◌}
use native.Mathlib.Omega.{arith}
use Rattle.meaning.proofs.Passing.{handed-on}
use Rattle.unmarshal.proofs.body.BodyLaws.{left-start, left_typed, left-past, left-stop, left_over, left-none}
use Rattle.unmarshal.proofs.body.unmarshal_body.Goals as goal

pub loop-at-init : goal.loop-at-init
loop-at-init c = (omega arith, c.requires.inside, left-start _ _ _ _ c.requires.types)

pub value-requires : goal.value-requires
value-requires c =
    let i = c.loop-at.invariant in
    record { typed = left_typed _ _ _ _ _ _ i.2 c.loop-at-test.true; inside = i.1 }

pub loop-at-smaller : goal.loop-at-smaller
loop-at-smaller c =
    let i = c.loop-at.invariant in
    let n = left-past _ _ _ _ _ _ i.2 c.loop-at-test.true _ c.value.ensures _ i.1 c.in_ok-at.was in
    omega (arith, n.0, n.1)

pub loop-at-preserved : goal.loop-at-preserved
loop-at-preserved c =
    let i = c.loop-at.invariant in
    let n = left-past _ _ _ _ _ _ i.2 c.loop-at-test.true _ c.value.ensures _ i.1 c.in_ok-at.was in
    (n.1, n.3, n.4)

pub returns-in_err-at : goal.returns-in_err-at
returns-in_err-at c =
    λ ts z. handed-on _ _ c.from_residual.ensures ∙ left-stop _ _ _ _ _ _ c.loop-at.invariant.2 c.loop-at-test.true _ c.value.ensures _ c.in_err-at.was ts z

pub returns-then-at-buf : goal.returns-then-at-buf
returns-then-at-buf c =
    λ ts z. left_over _ _ _ _ _ _ c.loop-at.invariant.2 c.loop-at-test.false ts z _ c.if-at-buf.true c.refuse.ensures

pub returns : goal.returns
returns c =
    λ ts z. left-none _ _ _ _ _ _ c.loop-at.invariant.2 c.loop-at-test.false ts z c.if-at-buf.false
