-- At each of the four alignments the code computes what `gap` says; no byte leads to a multiple of 1.
use native.Mathlib.Omega.{arith}
use Rattle.meaning.specs.Number.{gap}
use Rattle.util.proofs.Pads.{is_one}
use Rattle.util.proofs.gap.Goals as goal

pub returns-then-align-eq8 : goal.returns-then-align-eq8
unfolding gap
returns-then-align-eq8 c = rw c.if-align-eq8.true (omega arith)

pub returns-then-align-eq4 : goal.returns-then-align-eq4
unfolding gap
returns-then-align-eq4 c = rw c.if-align-eq4.true (omega arith)

pub returns-then-align-eq2 : goal.returns-then-align-eq2
unfolding gap
returns-then-align-eq2 c = rw c.if-align-eq2.true (omega arith)

pub returns-else-align-eq2 : goal.returns-else-align-eq2
unfolding gap
returns-else-align-eq2 c = rw (is_one _ c.requires c.if-align-eq8.false c.if-align-eq4.false c.if-align-eq2.false) (omega arith)
