-- The string's answer says where its text stands, and the rule is tested on that.
use native.Mathlib.Omega.{arith}
use mathlib.Core.Path.{sym, ◌∙◌}
use Rattle.meaning.proofs.Passing.{handed-on}
use Rattle.text.proofs.strings.Strings.{cut, is-a-path, no-path, no-string}
use Rattle.text.proofs.strings.read_path.Goals as goal

pub overflow_sub-stop : goal.overflow_sub-stop
overflow_sub-stop c = let k = cut _ _ _ c.requires _ (sym c.in_ok-next.was ∙ c.read_string.ensures) in omega (arith, k.after)

pub slice_bounds-is_path-count : goal.slice_bounds-is_path-count
slice_bounds-is_path-count c = let k = cut _ _ _ c.requires _ (sym c.in_ok-next.was ∙ c.read_string.ensures) in omega (arith, k.after)

pub slice_bounds-is_path-start : goal.slice_bounds-is_path-start
slice_bounds-is_path-start c =
    let k = cut _ _ _ c.requires _ (sym c.in_ok-next.was ∙ c.read_string.ensures) in
    omega (arith, k.after, k.before)

pub slice_bounds-is_path-end : goal.slice_bounds-is_path-end
slice_bounds-is_path-end c =
    let k = cut _ _ _ c.requires _ (sym c.in_ok-next.was ∙ c.read_string.ensures) in
    omega (arith, k.after, k.before)

pub returns-then-is_path : goal.returns-then-is_path
returns-then-is_path c =
    let k = cut _ _ _ c.requires _ (sym c.in_ok-next.was ∙ c.read_string.ensures) in
    is-a-path _ _ _ c.requires _ k (sym c.if-is_path.true ∙ c.is_path.ensures)

pub returns-else-is_path : goal.returns-else-is_path
returns-else-is_path c =
    let k = cut _ _ _ c.requires _ (sym c.in_ok-next.was ∙ c.read_string.ensures) in
    no-path _ _ _ c.requires _ k (sym c.if-is_path.false ∙ c.is_path.ensures) _ c.refuse.ensures

pub returns-in_err-next : goal.returns-in_err-next
returns-in_err-next c = handed-on _ _ c.from_residual.ensures ∙ no-string _ _ _ c.requires _ (sym c.in_err-next.was ∙ c.read_string.ensures)
