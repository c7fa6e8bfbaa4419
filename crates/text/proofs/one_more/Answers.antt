-- The tests of a byte that is due are those of the scan.
use mathlib.Core.Logic.{inl, inr}
use mathlib.Core.Path.{◌∙◌}
use Rattle.text.proofs.Scans.{below, above, inside}
use Rattle.text.proofs.one_more.Goals as goal

pub returns-then-b-due : goal.returns-then-b-due
returns-then-b-due c = λ cs. c.asks.ensures cs ∙ inside _ _ _ _ cs c.if-due-eq0.false c.if-due-b.true c.if-b-due.true

pub returns-else-due-b : goal.returns-else-due-b
returns-else-due-b c = λ cs.
    elim c.else-due-b.either [
      | inl p ↦ above _ _ _ _ cs c.if-due-eq0.false p.0 p.1
      | inr p ↦ below _ _ _ _ cs c.if-due-eq0.false p
    ]
