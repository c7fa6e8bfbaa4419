-- The loop looks at each known code, and stops at the first that was seen twice.
use mathlib.Core.Path.{sym}
use native.Mathlib.Omega.{arith}
use lib.ListN.{get_or}
use lib.Dec.{leb}
use Rattle.meaning.proofs.Local.{leb-true, leb-false}
use Rattle.header.specs.HeaderFields.{unseen, once}
use Rattle.header.proofs.header_fields.SeenLaws.{all_known, one_known, one_more}
use Rattle.header.proofs.header_fields.unrepeated.Goals as goal

pub loop-code-init : goal.loop-code-init
loop-code-init c = λ k a b. absurd (omega arith)

pub loop-code-preserved : goal.loop-code-preserved
loop-code-preserved c =
    one_more (λ k. leb (get_or c.args.seen.now k unseen).count 1) _ c.loop-code.invariant (leb-true _ _ c.if-seen-code-gt1.false)

pub returns-then-seen-code-gt1 : goal.returns-then-seen-code-gt1
unfolding once
returns-then-seen-code-gt1 c =
    sym (one_known (λ k. leb (get_or c.args.seen.now k unseen).count 1) c.loop-code.code c.loop-code.auto.code c.loop-code-test.true
    (leb-false _ _ c.if-seen-code-gt1.true))

pub returns : goal.returns
unfolding once
returns c = sym (all_known (λ k. leb (get_or c.args.seen.now k unseen).count 1) (λ k a b. c.loop-code.invariant k a (omega arith)))
