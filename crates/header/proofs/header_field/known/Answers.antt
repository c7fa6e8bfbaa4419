-- The padding, then the value, and what the header keeps of it.
use mathlib.Core.Path.{refl, sym, ◌∙◌, ap, subst}
use Prim.Native.Nat.{ℕ}
use lib.Dec.{T}
use Rattle.meaning.proofs.Passing.{handed-on}
use Rattle.meaning.specs.Writers.{is_alignment}
use Rattle.types.specs.Codes.{align_code}
use Rattle.types.proofs.CodeLaws.{align-base, base-is-alignment}
use Rattle.util.proofs.Pads.{padded-within}
use Rattle.basic.proofs.BaseLaws.{base-padding}
use Rattle.header.proofs.header_field.KnownLaws.{only, pad-stop, bare-stop, value, stood, holds}
use Rattle.header.proofs.header_field.known.Goals as goal

pub padded-requires : goal.padded-requires
padded-requires c =
    let k = c.requires.known in
    let wide = c.align.ensures ∙ ap align_code k.is ∙ align-base k.of in
    record { inside = c.requires.inside; alignment = subst (λ (n : ℕ). T (is_alignment n)) (sym wide) (base-is-alignment k.of) }

pub bare-requires : goal.bare-requires
bare-requires c =
    (padded-within _ _ _ _ _ c.requires.inside c.padded.ensures c.in_ok-at.was).1

pub entry_of-requires : goal.entry_of-requires
entry_of-requires c =
    let k = c.requires.known in
    let padding = base-padding k.of _ _ _ _ c.align.ensures k.is c.padded.ensures ∙ c.in_ok-at.was in
    let reads = sym (c.bare.ensures k.of k.is) ∙ c.in_ok-next.was in
    record { for = _; of = k.of; value = (value _ _ _ k _ _ _ padding _ reads).0; stands = stood _ _ _ k _ _ _ padding _ reads }

pub returns : goal.returns
returns c =
    let k = c.requires.known in
    let padding = base-padding k.of _ _ _ _ c.align.ensures k.is c.padded.ensures ∙ c.in_ok-at.was in
    let reads = sym (c.bare.ensures k.of k.is) ∙ c.in_ok-next.was in
    let keeps = c.entry_of.ensures _ k.of _ (stood _ _ _ k _ _ _ padding _ reads) in
    only _ _ _ k _ _ _ (holds _ _ _ k _ _ _ padding _ reads _ _ keeps refl)

pub returns-in_err-next : goal.returns-in_err-next
returns-in_err-next c =
    let k = c.requires.known in
    let padding = base-padding k.of _ _ _ _ c.align.ensures k.is c.padded.ensures ∙ c.in_ok-at.was in
    let reads = sym (c.bare.ensures k.of k.is) ∙ c.in_err-next.was in
    only _ _ _ k _ _ _ (handed-on _ _ c.from_residual-in_err-next.ensures ∙ bare-stop _ _ _ k _ _ _ padding _ reads)

pub returns-in_err-at : goal.returns-in_err-at
returns-in_err-at c =
    let k = c.requires.known in
    let padding = base-padding k.of _ _ _ _ c.align.ensures k.is c.padded.ensures ∙ c.in_err-at.was in
    only _ _ _ k _ _ _ (handed-on _ _ c.from_residual.ensures ∙ pad-stop _ _ _ k _ _ _ padding)
