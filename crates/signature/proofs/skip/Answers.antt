-- Both loops keep how many bytes are left of the type, counting brackets; a type spelled there ends after that many.
use mathlib.Core.Path.{sym, ◌∙◌}
use native.Mathlib.Omega.{arith}
use lib.ListN.{drop, get_or}
use Rattle.signature.proofs.EndLaws.{scan, ends_at, first-within, next-within, end-array, end-first, end-next, stopped, bracket-one}
use Rattle.signature.proofs.skip.Goals as goal

pub bounds-sig-i : goal.bounds-sig-i
bounds-sig-i c = first-within c.requires c.loop-i.i c.loop-i.invariant

pub loop-i-preserved : goal.loop-i-preserved
loop-i-preserved c =
    let start = c in
    let loop = c.loop-i in
    sym (end-array start.args.sig.now loop.i (first-within start.requires loop.i loop.invariant) c.loop-i-test.true) ∙ loop.invariant

pub bounds-sig-i-2 : goal.bounds-sig-i-2
bounds-sig-i-2 c = first-within c.requires c.loop-i.i c.loop-i.invariant

pub overflow_add-i-2 : goal.overflow_add-i-2
overflow_add-i-2 c = omega (arith, first-within c.requires c.loop-i.i c.loop-i.invariant)

pub loop-depth-init : goal.loop-depth-init
loop-depth-init c =
    let start = c in
    let loop = c.loop-i in
    let b = c.bracket-depth.ensures in (
      omega (arith, b, bracket-one (get_or start.args.sig.now loop.i 0) 0),
      rw b
          (sym (end-first start.args.sig.now loop.i (first-within start.requires loop.i loop.invariant) c.loop-i-test.false) ∙ loop.invariant),
    )

pub bounds-sig-i-in-loop-depth : goal.bounds-sig-i-in-loop-depth
bounds-sig-i-in-loop-depth c =
    let asked = c.requires in
    let loop2 = c.loop-depth in
    next-within asked loop2.i loop2.depth c.loop-depth-test.true loop2.invariant.1

pub bracket-depth-requires-in-loop-depth : goal.bracket-depth-requires-in-loop-depth
bracket-depth-requires-in-loop-depth c =
    let asked = c.requires in
    let good = c.well_formed in
    let loop2 = c.loop-depth in
    omega (arith, loop2.invariant.0, next-within asked loop2.i loop2.depth c.loop-depth-test.true loop2.invariant.1, good.0.1)

pub overflow_add-i-in-loop-depth : goal.overflow_add-i-in-loop-depth
overflow_add-i-in-loop-depth c =
    let asked = c.requires in
    let loop2 = c.loop-depth in
    omega (arith, next-within asked loop2.i loop2.depth c.loop-depth-test.true loop2.invariant.1)

pub loop-depth-smaller : goal.loop-depth-smaller
loop-depth-smaller c =
    let asked = c.requires in
    let loop2 = c.loop-depth in
    omega (arith, next-within asked loop2.i loop2.depth c.loop-depth-test.true loop2.invariant.1)

pub loop-depth-preserved : goal.loop-depth-preserved
loop-depth-preserved c =
    let start = c in
    let loop2 = c.loop-depth in
    let loop2-test = c.loop-depth-test in
    let b = c.bracket-depth-in-loop-depth.ensures in (
      omega (arith, b, loop2.invariant.0, bracket-one (get_or start.args.sig.now loop2.i 0) loop2.depth),
      rw b
          (sym (end-next start.args.sig.now loop2.i loop2.depth
          (next-within start.requires loop2.i loop2.depth loop2-test.true loop2.invariant.1) loop2-test.true) ∙ loop2.invariant.1),
    )

pub returns : goal.returns
returns c =
    let args = c.args in
    let loop2 = c.loop-depth in
    λ t e h. omega (
      arith,
      loop2.invariant.1,
      stopped loop2.depth (scan (drop loop2.i args.sig.now) loop2.depth)
          c.loop-depth-test.false,
      ends_at h,
    )
