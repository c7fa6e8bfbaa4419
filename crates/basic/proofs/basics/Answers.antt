-- The loop over basic values is `many` of their reader, turn by turn.
use native.Mathlib.Omega.{arith}
use mathlib.Core.Path.{◌∙◌}
use Rattle.meaning.specs.ReadValue.{base_r}
use Rattle.meaning.proofs.Passing.{handed-on}
use Rattle.basic.proofs.LoopLaws.{began, moved, turned, refused, ended}
use Rattle.meaning.proofs.ValueLocal.{base_r-local}
use Rattle.meaning.proofs.Grows.{base-grows}
use Rattle.basic.proofs.basics.Goals as goal

pub loop-past-init : goal.loop-past-init
loop-past-init c = (
  omega arith,
  c.requires.inside,
  λ b e. began (base_r _ b) (base_r-local _ b) (base-grows _ b) _ _ c.requires.inside,
)

pub base-requires : goal.base-requires
base-requires c = record { base_code = c.requires.base_code; inside = c.loop-past.invariant.1 }

pub loop-past-smaller : goal.loop-past-smaller
loop-past-smaller c =
    let b = c.requires.base_code in
    let m = moved (base_r c.args.order b.of) (base_r-local _ b.of) (base-grows _ b.of) _ _ _ _ c.loop-past.invariant.1
    (c.base.ensures b.of b.is) c.in_ok-past.was in
    omega arith

pub loop-past-preserved : goal.loop-past-preserved
loop-past-preserved c =
    let loop = c.loop-past.invariant in
    let b = c.requires.base_code in
    let m = moved (base_r c.args.order b.of) (base_r-local _ b.of) (base-grows _ b.of) _ _ _ _ loop.1 (c.base.ensures b.of b.is) c.in_ok-past.was in (
      omega arith,
      m.1,
      λ b e. turned (base_r _ b) (base_r-local _ b) (base-grows _ b) _ _ _ _ _ _ (loop.2 b e) (omega (arith, c.loop-past-test.true)) (c.base.ensures b e) c.in_ok-past.was,
    )

pub returns-in_err-past : goal.returns-in_err-past
returns-in_err-past c = λ b e.
    handed-on _ _ c.from_residual.ensures
    ∙ refused (base_r _ b) (base_r-local _ b) (base-grows _ b) _ _ _ _ _ _ (c.loop-past.invariant.2 b e) (omega (arith, c.loop-past-test.true)) (c.base.ensures b e)
    c.in_err-past.was

pub returns : goal.returns
returns c = λ b e.
    let loop = c.loop-past.invariant in
    let shut = c.loop-past-test.false in
    ended (base_r _ b) (base_r-local _ b) (base-grows _ b) _ _ _ _ _ (loop.2 b e) (omega (arith, shut)) (omega (arith, loop.1, shut))
