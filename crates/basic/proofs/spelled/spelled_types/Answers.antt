-- The text is read, and the grammar checks the part of the buffer that holds it.
use mathlib.Core.Path.{◌≡◌, sym, ◌∙◌}
use native.Mathlib.Omega.{arith}
use Rattle.std.specs.Prelude.{Ok}
use Rattle.meaning.specs.declared.Order.TheVariants.{Little}
use Rattle.basic.proofs.spelled.SpellLaws.{spelt-types, spelt-refused, reached-within}
use Rattle.basic.proofs.spelled.spelled_types.Goals as goal

pub overflow_sub-stop : goal.overflow_sub-stop
overflow_sub-stop c =
    let read : c.read_signature_text.result ≡ Ok c.in_ok-past.past = grind arith in
    let r = reached-within Little _ _ c.requires _ (sym (c.read_signature_text.ensures Little) ∙ read) in
    omega (arith, r.0)

pub slice_bounds-parse_description-count : goal.slice_bounds-parse_description-count
slice_bounds-parse_description-count c =
    let read : c.read_signature_text.result ≡ Ok c.in_ok-past.past = grind arith in
    let r = reached-within Little _ _ c.requires _ (sym (c.read_signature_text.ensures Little) ∙ read) in
    omega (arith, r.0)

pub slice_bounds-parse_description-start : goal.slice_bounds-parse_description-start
slice_bounds-parse_description-start c =
    let read : c.read_signature_text.result ≡ Ok c.in_ok-past.past = grind arith in
    let r = reached-within Little _ _ c.requires _ (sym (c.read_signature_text.ensures Little) ∙ read) in
    omega (arith, r.0, r.1)

pub slice_bounds-parse_description-end : goal.slice_bounds-parse_description-end
slice_bounds-parse_description-end c =
    let read : c.read_signature_text.result ≡ Ok c.in_ok-past.past = grind arith in
    let r = reached-within Little _ _ c.requires _ (sym (c.read_signature_text.ensures Little) ∙ read) in
    omega (arith, r.0, r.1)

pub returns-in-Ok : goal.returns-in-Ok
returns-in-Ok c = λ o.
    let read : c.read_signature_text.result ≡ Ok c.in_ok-past.past = grind arith in
    spelt-types o _ _ c.requires _ (sym (c.read_signature_text.ensures o) ∙ read) _ (sym c.in-Ok.is ∙ c.parse_description.ensures)

pub returns-in-Err : goal.returns-in-Err
returns-in-Err c = λ o.
    let read : c.read_signature_text.result ≡ Ok c.in_ok-past.past = grind arith in
    spelt-refused o _ _ c.requires _ (sym (c.read_signature_text.ensures o) ∙ read) _ _
    (sym c.in-Err.is ∙ c.parse_description.ensures) c.moved.ensures
