-- The entry that is found says which part of the message it is; without one the fallback comes back.
use mathlib.Core.Logic.{inl, inr}
use native.Mathlib.Omega.{arith}
use Rattle.lookup.proofs.LookupLaws.{look-text, look-number, look-absent}
use Rattle.lookup.proofs.lookup.Goals as goal

pub overflow_add-result : goal.overflow_add-result
overflow_add-result c =
    let t = look-text _ c.args.code c.args.fallback.now (λ i. omega (arith, c.type_inv.message i)) _ c.find.ensures _ _ c.in-Text.is in
    omega (arith, t.0)

pub slice_bounds-result-end : goal.slice_bounds-result-end
slice_bounds-result-end c =
    let t = look-text _ c.args.code c.args.fallback.now (λ i. omega (arith, c.type_inv.message i)) _ c.find.ensures _ _ c.in-Text.is in
    omega (arith, t.0)

pub returns-in-Text : goal.returns-in-Text
returns-in-Text c = (look-text _ _ _ (λ i. omega (arith, c.type_inv.message i)) _ c.find.ensures _ _ c.in-Text.is).1

pub returns-in-Number : goal.returns-in-Number
returns-in-Number c = elim c.in-Number.is [
  | inl n ↦ look-number _ _ _ (λ i. omega (arith, c.type_inv.message i)) _ c.find.ensures n.0 n.1
  | inr none ↦ look-absent _ _ _ (λ i. omega (arith, c.type_inv.message i)) _ c.find.ensures none
]
