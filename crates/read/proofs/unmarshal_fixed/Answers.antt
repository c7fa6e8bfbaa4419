-- The tests are those of `read_fixed`, in its order; the one byte of the signature and its size in the table tell the type.
use native.Mathlib.Omega.{arith}
use Prim.Native.Nat.{ℕ}
use mathlib.Core.Path.{sym, subst, ◌∙◌}
use lib.Dec.{T}
use Rattle.meaning.specs.ReadValue.{padding}
use Rattle.meaning.specs.Writers.{is_alignment}
use Rattle.meaning.proofs.Passing.{handed-on}
use Rattle.meaning.proofs.ValueLocal.{padding-local}
use Rattle.types.proofs.CodeLaws.{size-is-alignment}
use Rattle.util.proofs.Windows.{reached-within}
use Rattle.read.proofs.FixedTypes.{not-one, no_size, names, chosen}
use Rattle.read.proofs.Ways.{bad-argument, outside, bad-padding, behind}
use Rattle.read.proofs.unmarshal_fixed.Goals as goal

pub returns-then-sig-ne1 : goal.returns-then-sig-ne1
returns-then-sig-ne1 c = bad-argument _ _ _ _ (not-one _ c.if-sig-ne1.true) _ c.refuse.ensures

pub returns-then-width-eq0 : goal.returns-then-width-eq0
returns-then-width-eq0 c = bad-argument _ _ _ _ (no_size _ (sym c.size-width.ensures ∙ c.if-width-eq0.true)) _ c.refuse-then-width-eq0.ensures

pub returns-then-buf-off : goal.returns-then-buf-off
returns-then-buf-off c =
    let k = chosen _ _ c.size-width.ensures c.if-width-eq0.false in
    outside _ _ _ _ k.type _ (names _ k.type c.if-sig-ne1.false k.coded) k.wide c.if-buf-off.true _ c.refuse-then-buf-off.ensures

pub padded-requires : goal.padded-requires
padded-requires c =
    let k = chosen _ _ c.size-width.ensures c.if-width-eq0.false in
    record { inside = c.if-buf-off.false; alignment = subst (λ (w : ℕ). T (is_alignment w)) (sym k.wide) (size-is-alignment k.type) }

pub bare-requires : goal.bare-requires
bare-requires c =
    let the_size = c.size-width in
    let if2 = c.if-width-eq0 in
    let if3 = c.if-buf-off in
    let padded = c.padded in
    let k = chosen _ _ the_size.ensures if2.false in
    let w = reached-within (padding _) (padding-local _).bound _ _ _ if3.false
    (sym c.in_ok-place.was ∙ padded.ensures) in
    (w.1, record { type = k.type; coded = k.coded })

pub returns : goal.returns
returns c =
    let if1 = c.if-sig-ne1 in
    let the_size = c.size-width in
    let if2 = c.if-width-eq0 in
    let if3 = c.if-buf-off in
    let padded = c.padded in
    let k = chosen _ _ the_size.ensures if2.false in
    behind _ _ _ _ k.type _ (names _ k.type if1.false k.coded) k.wide if3.false _
    (sym c.in_ok-place.was ∙ padded.ensures) _ (c.bare.ensures k.type k.coded)

pub returns-in_err-place : goal.returns-in_err-place
returns-in_err-place c =
    let if1 = c.if-sig-ne1 in
    let the_size = c.size-width in
    let if2 = c.if-width-eq0 in
    let if3 = c.if-buf-off in
    let padded = c.padded in
    let k = chosen _ _ the_size.ensures if2.false in
    handed-on _ _ c.from_residual.ensures
    ∙ bad-padding _ _ _ _ k.type _ (names _ k.type if1.false k.coded) k.wide if3.false _
    (sym c.in_err-place.was ∙ padded.ensures)
