-- Each byte takes the walk on by one step of the scan.
use Prim.Native.Nat.{ℕ}
use mathlib.Core.List.{List}
use mathlib.Core.Bool.{not}
use mathlib.Core.Path.{◌≡◌, refl, ap, sym, ◌∙◌}
use native.Mathlib.Omega.{arith}
use lib.ListN.{get_or}
use Rattle.std.proofs.lemmas.Result.{err_from_is_err_and}
use Rattle.text.specs.declared.BadText.TheVariants.{NotUtf8}
use borrow.Author.Tests.{eq-eqb, ne_eqb}
use Rattle.meaning.specs.Text.{utf8}
use Rattle.text.proofs.Classes.{classes, rule, said}
use Rattle.text.proofs.Scans.{scan-on, scan-stop, zero-on, scan-end, zero-end, not-utf8, has-zero, fine}
use Rattle.text.proofs.walk.Goals as goal

pub loop-b-init : goal.loop-b-init
unfolding utf8
loop-b-init c = (refl, refl)

pub one_more-requires : goal.one_more-requires
unfolding classes
one_more-requires c = rule _ (omega (arith, c.type_inv.s c.loop-b.b-index))

pub returns-in_err-at : goal.returns-in_err-at
returns-in_err-at c =
    let none = c.in_err-at.ensures.ok_part in
    let p = err_from_is_err_and c.from_residual.result c.from_residual.ensures.1 in
    let e = rw none at c.in_err-at.ensures.value in
    let wrong : p.0 ≡ NotUtf8 = cc in
    rw (p.1, wrong) (not-utf8 _ (scan-stop _ _ c.loop-b-test.true _ _ _ c.loop-b.invariant.0 c.one_more.ensures none))

pub loop-b-preserved : goal.loop-b-preserved
unfolding classes
loop-b-preserved c =
    let s : List ℕ = c.args.s.now in
    let i : ℕ = c.loop-b.b-index in
    let held = c.loop-b.invariant in (
      scan-on s i c.loop-b-test.true _ _ _ _ held.0 c.one_more.ensures c.in_ok-at.ensures.ok_part,
      zero-on s i c.loop-b-test.true _ c.loop-b.zero c.eq-zero.result held.1
          ((said (get_or s i 0) (omega (arith, c.type_inv.s i))).zero ∙ sym c.eq-zero.ensures),
    )

pub returns-then-at-ne0 : goal.returns-then-at-ne0
returns-then-at-ne0 c = not-utf8 _ (c.loop-b.invariant.0 ∙ scan-end _ _ _ _ _ c.loop-b-test.false ∙ ne_eqb _ _ c.if-at-ne0.true)

pub returns-then-zero : goal.returns-then-zero
returns-then-zero c =
    let ended = c.loop-b-test.false in
    has-zero _ (c.loop-b.invariant.0 ∙ scan-end _ _ _ _ _ ended ∙ eq-eqb _ _ c.if-at-ne0.false)
    (c.loop-b.invariant.1 ∙ zero-end _ _ _ ended ∙ ap not c.if-zero.true)

pub returns-else-zero : goal.returns-else-zero
returns-else-zero c =
    let ended = c.loop-b-test.false in
    fine _ (c.loop-b.invariant.0 ∙ scan-end _ _ _ _ _ ended ∙ eq-eqb _ _ c.if-at-ne0.false)
    (c.loop-b.invariant.1 ∙ zero-end _ _ _ ended ∙ ap not c.if-zero.false)
