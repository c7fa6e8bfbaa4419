-- The loop's invariant: what is left to spell leads to what all of it leads to.
use Prim.Native.Nat.{◌+◌, ◌*◌}
use native.Mathlib.Omega.{arith}
use mathlib.Core.Path.{◌≡◌, refl}
use lib.ListN.{length-set, drop_of_length-le}
use Rattle.text_out.specs.Digits.{hex_text}
use Rattle.text_out.proofs.Laws.{text-turn}
use Rattle.text_out.proofs.pair.Goals as goal

pub loop-i-init : goal.loop-i-init
loop-i-init c =
    let a = c.args in
    let f : a.at + 2 * 0 ≡ a.at = omega arith in
    rw f (omega arith, refl, refl)

pub glyph-requires : goal.glyph-requires
glyph-requires c =
    omega (arith, c.type_inv.s c.loop-i.i)

pub bounds-out-at-in-loop-i : goal.bounds-out-at-in-loop-i
bounds-out-at-in-loop-i c =
    simp length-set (omega arith)

pub loop-i-preserved : goal.loop-i-preserved
loop-i-preserved c =
    let l = c.loop-i in
    let a = c.args in
    let t = text-turn l.out _ a.s.now a.at l.i (omega arith) l.invariant.2 in
    (omega arith, simp length-set l.invariant.1, rw (c.glyph.ensures, c.glyph-in-loop-i.ensures) t)

pub returns : goal.returns
unfolding hex_text
returns c =
    let a = c.args in
    let l = c.loop-i in
    rw (drop_of_length-le a.s.now {i = l.i} (omega arith)) at l.invariant.2

pub shape_of-out : goal.shape_of-out
shape_of-out c = c.loop-i.invariant.1
