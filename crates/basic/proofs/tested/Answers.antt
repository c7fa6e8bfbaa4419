-- The padding by the table, and then the value.
use mathlib.Core.Path.{sym, ◌∙◌, ap, subst}
use Prim.Native.Nat.{ℕ}
use lib.Dec.{T}
use Rattle.meaning.specs.Writers.{is_alignment}
use Rattle.meaning.proofs.Passing.{handed-on}
use Rattle.types.specs.Codes.{align_code}
use Rattle.types.proofs.CodeLaws.{align-base, base-is-alignment}
use Rattle.util.proofs.Pads.{padded-within}
use Rattle.basic.proofs.BaseLaws.{base-stop, base-bare, base-padding}
use Rattle.basic.proofs.tested.Goals as goal

pub padded-requires : goal.padded-requires
padded-requires c =
    let b = c.requires.base_code in
    let e = c.align.ensures ∙ ap align_code b.is ∙ align-base b.of in
    record { inside = c.requires.inside; alignment = subst (λ (n : ℕ). T (is_alignment n)) (sym e) (base-is-alignment b.of) }

pub bare-requires : goal.bare-requires
bare-requires c = (padded-within _ _ _ _ _ c.requires.inside c.padded.ensures c.in_ok-at.was).1

pub returns : goal.returns
returns c = λ b e. base-bare _ b _ _ _ _ (base-padding b _ _ _ _ c.align.ensures e c.padded.ensures ∙ c.in_ok-at.was) (c.bare.ensures b e)

pub returns-in_err-at : goal.returns-in_err-at
returns-in_err-at c = λ b e.
    handed-on _ _ c.from_residual.ensures
    ∙ base-stop _ b _ _ _ (base-padding b _ _ _ _ c.align.ensures e c.padded.ensures ∙ c.in_err-at.was)
