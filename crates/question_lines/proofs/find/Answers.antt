-- The search is of the part, so what it finds stands that far behind `from`.
use Rattle.std.proofs.Common.{◌≡◌, ◌+◌, ◌-◌, nat_eq, length, sym, ap, ◌∙◌, arith, rules, length-take-le, length-drop}
use Rattle.std.specs.List.{between, position}
use Rattle.std.proofs.lemmas.Iterator.{YieldsList-from_slice}
use Rattle.std.proofs.lemmas.Iterator.Search.{position_from_yields_List}
use Rattle.question_lines.proofs.Laws.{found_at, found_none}
use Rattle.question_lines.proofs.find.Goals as goal

pub returns-in-Some-clause-place : goal.returns-in-Some-clause-place
returns-in-Some-clause-place c =
    let a = c.args in
    let part = between a.from a.to a.s.now in
    let chain = YieldsList-from_slice part c.iter.ensures.rest in
    let p : c.position.result ≡ position (λ x. nat_eq x a.b) part =
    position_from_yields_List _ _ _ _ c.position.ensures.ran chain (λ x b q k. search rules) in
    ap (λ i. a.from + i) (sym (found_at a.b part c.in-Some.i (sym p ∙ c.in-Some.is)))

pub returns-in-None-clause-place : goal.returns-in-None-clause-place
returns-in-None-clause-place c =
    let a = c.args in
    let part = between a.from a.to a.s.now in
    let chain = YieldsList-from_slice part c.iter.ensures.rest in
    let p : c.position.result ≡ position (λ x. nat_eq x a.b) part =
    position_from_yields_List _ _ _ _ c.position.ensures.ran chain (λ x b q k. search rules) in
    let long : length part ≡ a.to - a.from = length-take-le _ _ (simp length-drop (omega arith)) in
    omega (arith, found_none a.b part (sym p ∙ c.in-None.is))
