-- After an array's mark the dict is that array's; elsewhere it begins by itself.
use native.Mathlib.Omega.{arith}
use borrow.Author.Rules.{rules}
use Rattle.meaning.specs.Types.{loose}
use Rattle.meaning.specs.Signature.{need_key}
use Rattle.signature.proofs.MarkLaws.{not-mark, arrays-low, begins-dict, curl-array, curl-loose}
use Rattle.signature.proofs.curl.Goals as goal

pub returns-then-eq : goal.returns-then-eq
returns-then-eq c = λ k f. curl-array _ f (search (rules, c.if-eq.ensures)) (omega (arith, c.requires.room)) (omega arith)

pub overflow_add-state : goal.overflow_add-state
overflow_add-state c = let r = c.requires in omega (arith, r.room, arrays-low r.follows.stands)

pub begin-requires : goal.begin-requires
begin-requires c = let r = c.requires in record { stack = r.stack; next = need_key loose r.stack; begins = begins-dict r.follows; room = r.room }

pub returns : goal.returns
returns c = λ k f. rw (curl-loose k (not-mark f.stands (search (rules, c.if-eq.ensures)))) (c.begin.ensures k (need_key loose k) (begins-dict f))
