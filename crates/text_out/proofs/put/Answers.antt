-- The two tests are that there is room.
use native.Mathlib.Omega.{arith}
use mathlib.Core.Path.{refl}
use Rattle.text_out.proofs.Laws.{fitting, left_out}
use Rattle.text_out.proofs.put.Goals as goal

pub returns-then-s-out : goal.returns-then-s-out
returns-then-s-out c =
    let a = c.args in
    fitting a.out.now a.s.now _ a.at _ (omega arith) refl c.copy.ensures

pub returns-else-s-out : goal.returns-else-s-out
returns-else-s-out c = let a = c.args in left_out a.out.now a.s.now a.at (omega arith)

pub returns-else-at-out : goal.returns-else-at-out
returns-else-at-out c = let a = c.args in left_out a.out.now a.s.now a.at (omega arith)
