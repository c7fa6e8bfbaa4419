-- The loop keeps that what is left of the run gives the whole run.
use mathlib.Core.Path.{refl, ap, sym, ◌∙◌}
use Rattle.meaning.specs.Signature.{Step, finish}
use Rattle.meaning.specs.ReadValue.{counted_of}
use Rattle.std.specs.Prelude.{Err}
use Rattle.signature.proofs.RunLaws.{starts, goes_on, goes-off, run_end}
use Rattle.signature.proofs.parse_bytes.Goals as goal

pub loop-c-init : goal.loop-c-init
loop-c-init c = starts _ _ refl refl

pub returns-in-Err : goal.returns-in-Err
returns-in-Err c =
    let advance = c.advance in
    ap Err c.refuse.ensures ∙ sym (ap (λ (x : Step). counted_of (finish x))
    (goes-off advance.new.marks advance.result c.loop-c.invariant c.loop-c-test.true advance.ensures _ c.in-Err.is))

pub loop-c-preserved : goal.loop-c-preserved
loop-c-preserved c =
    let advance = c.advance in
    goes_on advance.new.marks advance.result c.loop-c.invariant c.loop-c-test.true advance.ensures _ c.in-Ok.is

pub returns : goal.returns
returns c =
    let going = c.loop-c.invariant in
    c.finished.ensures going.stack _ going.follows ∙ sym (ap (λ (x : Step). counted_of (finish x)) (run_end going c.loop-c-test.false))
