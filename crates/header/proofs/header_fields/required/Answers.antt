-- For each type of message the tests are its list of codes.
use mathlib.Core.Bool.{true, false}
use mathlib.Core.Path.{◌≡◌, sym, subst, ◌∙◌}
use lib.Dec.{T}
use Rattle.header.proofs.header_fields.SeenLaws.{and-true, signal-needs, signal-lacks}
use borrow.Author.Tests.{le-leb, lt-leb}
use Rattle.header.specs.HeaderFields.{present}
use Rattle.header.proofs.header_fields.required.Goals.{then-seen-ge1-3, else-seen-ge1-3}
use Rattle.header.proofs.header_fields.required.Goals as goal

pub returns-then-seen-ge1 : goal.returns-then-seen-ge1
unfolding present
returns-then-seen-ge1 c = simp (c.in-Call.is, le-leb _ _ c.if-seen-ge1.true, and-true)

pub returns-else-seen-ge1 : goal.returns-else-seen-ge1
unfolding present
returns-else-seen-ge1 c = simp (c.in-Call.is, lt-leb _ _ c.if-seen-ge1.false)

pub returns-in-Reply : goal.returns-in-Reply
unfolding present
returns-in-Reply c = simp (c.in-Reply.is, and-true)

pub returns-then-seen-ge1-2 : goal.returns-then-seen-ge1-2
unfolding present
returns-then-seen-ge1-2 c = simp (c.in-Error.is, le-leb _ _ c.if-seen-ge1-2.true, and-true)

pub returns-else-seen-ge1-2 : goal.returns-else-seen-ge1-2
unfolding present
returns-else-seen-ge1-2 c = simp (c.in-Error.is, lt-leb _ _ c.if-seen-ge1-2.false)

pub returns-then-seen-ge1-4 : goal.returns-then-seen-ge1-4
returns-then-seen-ge1-4 c = elim c.if-seen-ge1-3.branch [
  | then-seen-ge1-3 w ↦ signal-needs _ _ c.in-Signal.is (le-leb _ _ w.if-seen-ge1-3.true) (sym w.value-is ∙ c.if-seen-ge1-4.true)
  | else-seen-ge1-3 w ↦ let z : true ≡ false = sym c.if-seen-ge1-4.true ∙ w.value-is ∙ lt-leb _ _ w.if-seen-ge1-3.false in absurd (subst T z tt)
]

pub returns-else-seen-ge1-4 : goal.returns-else-seen-ge1-4
unfolding present
returns-else-seen-ge1-4 c = elim c.if-seen-ge1-3.branch [
  | then-seen-ge1-3 w ↦ signal-lacks _ _ c.in-Signal.is (le-leb _ _ w.if-seen-ge1-3.true) _ w.value-is c.if-seen-ge1-4.false
  | else-seen-ge1-3 w ↦ simp (c.in-Signal.is, c.if-seen-ge1-4.false, lt-leb _ _ w.if-seen-ge1-3.false)
]
