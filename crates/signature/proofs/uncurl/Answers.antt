-- A dict with key and value is a whole type; elsewhere the bracket is none.
use native.Mathlib.Omega.{arith}
use borrow.Author.Rules.{rules}
use Rattle.meaning.specs.Signature.{uncurl}
use Rattle.signature.proofs.MarkLaws.{not-mark, wider, whole_ready, refuses, uncurl-end, uncurl-none}
use Rattle.signature.proofs.uncurl.Goals as goal

pub returns-then-eq : goal.returns-then-eq
returns-then-eq c = λ k f. let h = uncurl-end f (search (rules, c.if-eq.ensures)) in wider (uncurl k) _ _ _ _ (omega (arith, h.above)) (c.put.ensures (uncurl k) h.whole)

pub returns : goal.returns
returns c = λ k f. refuses _ _ (uncurl-none k (not-mark f.stands (search (rules, c.if-eq.ensures))))

pub overflow_sub-state : goal.overflow_sub-state
overflow_sub-state c = (uncurl-end c.requires.follows (search (rules, c.if-eq.ensures))).above

pub overflow_sub-state-then-eq : goal.overflow_sub-state-then-eq
overflow_sub-state-then-eq c = (uncurl-end c.requires.follows (search (rules, c.if-eq.ensures))).inside

pub put-requires : goal.put-requires
put-requires c = let r = c.requires in whole_ready r _ _ _ (uncurl-end r.follows (search (rules, c.if-eq.ensures))) (omega arith)
