-- The tests are those of `read_fix`, in its order, at the width that the table gives for the code.
use Prim.Native.Nat.{ℕ}
use native.Mathlib.Omega.{arith}
use mathlib.Core.Path.{sym, subst, ◌∙◌}
use lib.Dec.{T}
use Rattle.meaning.specs.Writers.{is_alignment}
use Rattle.types.proofs.CodeLaws.{size-is-alignment}
use Rattle.read.proofs.FixedTypes.{size_of}
use Rattle.read.proofs.Ways.{too_few, is-valid, is-invalid}
use Rattle.read.proofs.bare.Goals as goal

pub returns-then-buf-at : goal.returns-then-buf-at
returns-then-buf-at c d e = too_few _ d _ _ _ c.requires.0 (c.size-width.ensures ∙ size_of _ d e) c.if-buf-at.true _ c.refuse.ensures

pub load-bits-requires : goal.load-bits-requires
load-bits-requires c =
    let k = c.requires.1 in
    (omega arith, subst (λ (w : ℕ). T (is_alignment w)) (sym (c.size-width.ensures ∙ size_of _ k.type k.coded)) (size-is-alignment k.type))

pub value-requires : goal.value-requires
value-requires c =
    let k = c.requires.1 in
    record {
      type = k.type;
      coded = k.coded;
      small = rw (c.size-width.ensures ∙ size_of _ k.type k.coded) at c.load-bits.ensures.small;
    }

pub returns-then-valid : goal.returns-then-valid
returns-then-valid c d e =
    let t = c in
    let wide = t.size-width.ensures ∙ size_of _ d e in
    let v = sym c.if-valid.true ∙ c.valid.ensures d e in
    is-valid _ d _ _ _ t.requires.0 wide t.if-buf-at.false _ c.load-bits.ensures v _ (c.value.ensures d e)

pub returns-else-valid : goal.returns-else-valid
returns-else-valid c d e =
    let t = c in
    let wide = t.size-width.ensures ∙ size_of _ d e in
    let v = sym c.if-valid.false ∙ c.valid.ensures d e in
    is-invalid _ d _ _ _ t.requires.0 wide t.if-buf-at.false _ c.load-bits.ensures v _ c.refuse-else-valid.ensures
