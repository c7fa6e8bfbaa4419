-- The signature, what the code asks for, and then the value by its type: `one` is what the code learns of the signature.
use mathlib.Core.Path.{◌∙◌, ap}
use native.Mathlib.Omega.{arith}
use Rattle.meaning.specs.Message.{wants}
use Rattle.meaning.proofs.Passing.{handed-on}
use Rattle.header.proofs.header_field.CodeLaws.{kept, other-asks, none-asks}
use Rattle.header.proofs.header_field.FieldLaws.{one_inside, one-shut, typed, right-type, wrong_type, known-code, content-shut, content-zero, content-wrong, content-known, content-past, content-stop}
use Rattle.header.proofs.header_field.content.Goals as goal

pub overflow_add-stop : goal.overflow_add-stop
overflow_add-stop c =
    let one = one_inside _ _ _ _ _ c.in_ok-first.was (c.one_type.ensures c.args.order) in
    omega (arith, one.within)

pub bounds-buf-first : goal.bounds-buf-first
bounds-buf-first c =
    let one = one_inside _ _ _ _ _ c.in_ok-first.was (c.one_type.ensures c.args.order) in
    omega (arith, one.some, one.within)

pub overflow_add-stop-in-1-to-9 : goal.overflow_add-stop-in-1-to-9
overflow_add-stop-in-1-to-9 c =
    let one = one_inside _ _ _ _ _ c.in_ok-first.was (c.one_type.ensures c.args.order) in
    omega (arith, one.within)

pub known-requires : goal.known-requires
known-requires c =
    let one = one_inside _ _ _ _ _ c.in_ok-first.was (c.one_type.ensures c.args.order) in
    let known = known-code _ _ (omega arith) (omega arith) c.asked-k.ensures in
    record { known = known; inside = omega (arith, one.within) }

pub overflow_add-at : goal.overflow_add-at
overflow_add-at c =
    let one = one_inside _ _ _ _ _ c.in_ok-first.was (c.one_type.ensures c.args.order) in
    omega (arith, one.within)

pub slice_bounds-value-end : goal.slice_bounds-value-end
slice_bounds-value-end c =
    let one = one_inside _ _ _ _ _ c.in_ok-first.was (c.one_type.ensures c.args.order) in
    omega (arith, one.within)

pub value-requires : goal.value-requires
value-requires c =
    let one = one_inside _ _ _ _ _ c.in_ok-first.was (c.one_type.ensures c.args.order) in
    record { typed = typed _ _ _ _ _ one; inside = omega (arith, one.within) }

pub returns-in-0 : goal.returns-in-0
returns-in-0 c =
    let one = one_inside _ _ _ _ _ c.in_ok-first.was (c.one_type.ensures c.args.order) in
    content-zero _ _ _ _ _ _ one.reads _ (ap wants c.in-0.is ∙ none-asks) c.refuse.ensures

pub returns-else-buf-first : goal.returns-else-buf-first
returns-else-buf-first c =
    let one = one_inside _ _ _ _ _ c.in_ok-first.was (c.one_type.ensures c.args.order) in
    let k = known-code _ _ (omega arith) (omega arith) c.asked-k.ensures in
    content-known _ _ _ _ _ _ one.reads k.of _ k.asks (right-type _ _ _ _ _ one k.of _ k.is c.if-buf-first.false) (c.known.ensures k.of k.asks)

pub returns-then-buf-first : goal.returns-then-buf-first
returns-then-buf-first c =
    let one = one_inside _ _ _ _ _ c.in_ok-first.was (c.one_type.ensures c.args.order) in
    let k = known-code _ _ (omega arith) (omega arith) c.asked-k.ensures in
    let wrong = wrong_type _ _ _ _ _ one k.of _ (kept _ k.of k.asks) k.is c.if-buf-first.true in
    content-wrong _ _ _ _ _ _ one.reads k.of _ k.asks wrong c.refuse-then-buf-first.ensures

pub returns-in_ok-past-in_default : goal.returns-in_ok-past-in_default
returns-in_ok-past-in_default c =
    let one = one_inside _ _ _ _ _ c.in_ok-first.was (c.one_type.ensures c.args.order) in
    let walks = c.value.ensures one.ty _ one.stands in
    content-past _ _ _ _ _ _ one.reads (other-asks _ (omega arith)) _ _ walks _ c.in_ok-past-in_default.was

pub returns-in_err-past-in_default : goal.returns-in_err-past-in_default
returns-in_err-past-in_default c =
    let one = one_inside _ _ _ _ _ c.in_ok-first.was (c.one_type.ensures c.args.order) in
    let walks = c.value.ensures one.ty _ one.stands in
    handed-on _ _ c.from_residual-in_err-past-in_default.ensures
    ∙ content-stop _ _ _ _ _ _ one.reads (other-asks _ (omega arith)) _ _ walks _ c.in_err-past-in_default.was

pub returns-in_err-first : goal.returns-in_err-first
returns-in_err-first c =
    handed-on _ _ c.from_residual.ensures
    ∙ content-shut _ _ _ _ _ (one-shut c.args.order _ _ _ _ c.in_err-first.was (c.one_type.ensures c.args.order))
