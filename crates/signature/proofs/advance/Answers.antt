-- Each byte is one step of the grammar's machine, which the function for that byte follows.
use mathlib.Core.Path.{sym, ◌∙◌}
use native.Mathlib.Omega.{arith}
use Rattle.meaning.specs.Types.{variant}
use Rattle.meaning.specs.Signature.{open0, in_arr}
use Rattle.signature.proofs.CodeLaws.{coded, step-base, step_variant, step-array, step-struct, step-curl, step-close, step-uncurl, step-bad}
use Rattle.signature.proofs.MarkLaws.{structs-low, arrays-low, refuses, leaf-variant, begins-array, begins-struct}
use Rattle.signature.proofs.advance.Goals as goal

pub returns-then-is_basic : goal.returns-then-is_basic
returns-then-is_basic c =
    let a = c.args in
    let is-basic = c.is_basic in
    λ k f. let b = coded a.c (sym is-basic.ensures ∙ c.if-is_basic.true) in rw (step-base a.c k b.type b.is)
    (c.basic.ensures k b.type b.is f)

pub returns-in-118 : goal.returns-in-118
returns-in-118 c = λ k f. rw (step_variant c.args.c k c.in-118.is) (c.leaf.ensures k variant leaf-variant f)

pub overflow_add-state : goal.overflow_add-state
overflow_add-state c = let r = c.requires in omega (arith, r.room, arrays-low r.follows.stands)

pub begin-requires : goal.begin-requires
begin-requires c = let r = c.requires in record { stack = r.stack; next = in_arr r.stack; begins = begins-array r.follows; room = r.room }

pub returns-in-97 : goal.returns-in-97
returns-in-97 c = λ k f. rw (step-array c.args.c k c.in-97.is) (c.begin.ensures k (in_arr k) (begins-array f))

pub overflow_add-state-in-40 : goal.overflow_add-state-in-40
overflow_add-state-in-40 c = let r = c.requires in omega (arith, r.room, structs-low r.follows.stands)

pub begin-requires-in-40 : goal.begin-requires-in-40
begin-requires-in-40 c =
    let r = c.requires in
    record { stack = r.stack; next = open0 r.stack; begins = begins-struct r.follows; room = r.room }

pub returns-in-40 : goal.returns-in-40
returns-in-40 c =
    let a = c.args in
    λ k f. rw (step-struct a.c k c.in-40.is) (c.begin-in-40.ensures k (open0 k) (begins-struct f))

pub returns-in-123 : goal.returns-in-123
returns-in-123 c = λ k f. rw (step-curl c.args.c k c.in-123.is) (c.curl.ensures k f)

pub returns-in-41 : goal.returns-in-41
returns-in-41 c = λ k f. rw (step-close c.args.c k c.in-41.is) (c.close.ensures k f)

pub returns-in-125 : goal.returns-in-125
returns-in-125 c = λ k f. rw (step-uncurl c.args.c k c.in-125.is) (c.uncurl.ensures k f)

pub returns-in_default : goal.returns-in_default
returns-in_default c =
    λ k f. refuses _ _ (step-bad k (omega arith) (sym c.is_basic.ensures ∙ c.if-is_basic.false) (λ e. omega arith) (λ e. omega arith) (λ e. omega arith)
    (λ e. omega arith) (λ e. omega arith) (λ e. omega arith))
