-- A struct with a field is a whole type; one with none is refused by its own fault, and where no struct is open the bracket is none.
use native.Mathlib.Omega.{arith}
use Rattle.meaning.specs.Signature.{close}
use Rattle.signature.proofs.MarkLaws.{the-mark, not-mark, wider, whole_ready, refuses, close-fields, close-empty, close-none}
use Rattle.signature.proofs.close.Goals as goal

pub returns-in-Fields : goal.returns-in-Fields
returns-in-Fields c = λ k f. let h = close-fields f c.in-Fields.is in wider (close k) _ _ _ _ (omega (arith, h.above)) (c.put.ensures (close k) h.whole)

pub returns-in-Empty : goal.returns-in-Empty
returns-in-Empty c = λ k f. refuses _ _ (close-empty k (the-mark f.stands c.in-Empty.is))

pub returns-in_default : goal.returns-in_default
returns-in_default c = λ k f. refuses _ _ (close-none k (not-mark f.stands c.in_default.not-Fields) (not-mark f.stands c.in_default.not-Empty))

pub overflow_sub-state : goal.overflow_sub-state
overflow_sub-state c = (close-fields c.requires.follows c.in-Fields.is).above

pub overflow_sub-state-in-Fields : goal.overflow_sub-state-in-Fields
overflow_sub-state-in-Fields c = (close-fields c.requires.follows c.in-Fields.is).inside

pub put-requires : goal.put-requires
put-requires c = let r = c.requires in whole_ready r _ _ _ (close-fields r.follows c.in-Fields.is) (omega arith)
