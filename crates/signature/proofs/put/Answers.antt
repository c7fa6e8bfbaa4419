-- Each array that the type completes is closed by the loop, and the mark that is left takes the type as the grammar's stack does.
use native.Mathlib.Omega.{arith}
use borrow.Author.Rules.{rules}
use Rattle.signature.proofs.MarkLaws.{unarray, put-floor, put-empty, put-fields, put-value, put-none}
use Rattle.signature.proofs.put.Goals as goal

pub overflow_sub-top : goal.overflow_sub-top
overflow_sub-top c = (unarray (c.loop-top.invariant.1 _ c.requires.whole) (search (rules, c.loop-top-test.ensures))).above

pub overflow_sub-arrays : goal.overflow_sub-arrays
overflow_sub-arrays c = (unarray (c.loop-top.invariant.1 _ c.requires.whole) (search (rules, c.loop-top-test.ensures))).inside

pub loop-top-smaller : goal.loop-top-smaller
loop-top-smaller c = omega (arith, (unarray (c.loop-top.invariant.1 _ c.requires.whole) (search (rules, c.loop-top-test.ensures))).above)

pub loop-top-preserved : goal.loop-top-preserved
loop-top-preserved c = (omega arith, λ x w. (unarray (c.loop-top.invariant.1 x w) (search (rules, c.loop-top-test.ensures))).whole)

pub returns-in-Floor : goal.returns-in-Floor
returns-in-Floor c = λ x w. put-floor _ (c.loop-top.invariant.1 x w) c.in-Floor.is (omega arith)

pub returns-in-Empty : goal.returns-in-Empty
returns-in-Empty c =
    let asked = c.requires in
    let the-loop = c.loop-top in
    λ x w. put-empty _ (the-loop.invariant.1 x w) c.in-Empty.is (omega (arith, asked.room)) (omega arith)

pub returns-in-Fields : goal.returns-in-Fields
returns-in-Fields c = λ x w. put-fields _ (c.loop-top.invariant.1 x w) c.in-Fields.is (omega arith)

pub returns-in-Value : goal.returns-in-Value
returns-in-Value c =
    let asked = c.requires in
    let the-loop = c.loop-top in
    λ x w. put-value _ (the-loop.invariant.1 x w) c.in-Value.is (omega (arith, asked.room)) (omega arith)

pub returns-in_default : goal.returns-in_default
returns-in_default c =
    let none = c.in_default in
    λ x w. put-none _ (c.loop-top.invariant.1 x w) none.not-Floor none.not-Empty none.not-Fields none.not-Value
    (search (rules, c.loop-top-test.ensures))
