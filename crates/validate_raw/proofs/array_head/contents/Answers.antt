-- Each return is one way through `lying_r`.
use mathlib.Core.Path.{sym, ◌∙◌}
use native.Mathlib.Omega.{arith}
use Rattle.meaning.proofs.Passing.{handed-on}
use Rattle.validate_raw.proofs.array_head.OpenLaws.{lying-over, lying-stop, lying-late, lying-inside}
use Rattle.util.proofs.Pads.{padded-within}
use Rattle.validate_raw.proofs.array_head.contents.Goals as goal

pub returns-then-buf-off : goal.returns-then-buf-off
returns-then-buf-off c = lying-over _ _ _ _ _ (omega arith) c.refuse.ensures

pub overflow_sub-buf-2 : goal.overflow_sub-buf-2
overflow_sub-buf-2 c = (padded-within _ _ _ _ _ c.requires.inside c.padded.ensures c.in_ok-first.was).1

pub returns-then-buf-first : goal.returns-then-buf-first
returns-then-buf-first c =
    lying-late _ _ _ _ (omega arith) _ (sym c.padded.ensures ∙ c.in_ok-first.was) _ (omega arith) c.refuse-then-buf-first.ensures

pub returns : goal.returns
returns c =
    let r = padded-within _ _ _ _ _ c.requires.inside c.padded.ensures c.in_ok-first.was in
    lying-inside _ c.args.len _ _ (omega arith) _ (sym c.padded.ensures ∙ c.in_ok-first.was) (omega arith)

pub returns-in_err-first : goal.returns-in_err-first
returns-in_err-first c =
    handed-on _ _ c.from_residual.ensures ∙ lying-stop _ _ _ _ (omega arith) _ (sym c.padded.ensures ∙ c.in_err-first.was)
