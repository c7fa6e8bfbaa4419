-- The tests are those of `write_at` and `signature_bytes`, in their order; one byte of length is the same in either order.
use native.Mathlib.Omega.{arith}
use Prim.Native.Nat.{ℕ}
use mathlib.Core.Path.{◌≡◌, ap, sym, ◌∙◌}
use Rattle.meaning.specs.declared.Order.{Order}
use Rattle.meaning.specs.declared.Fault.{Fault}
use Rattle.meaning.specs.Faults.{refusal, moved}
use Rattle.meaning.specs.Writers.{faulty, signature_bytes}
use Rattle.write.proofs.texts.Contents.{signature-small, is-signature, not-signature}
use Rattle.write.proofs.store.Writes.{outside, is-faulty, is-bytes}
use Rattle.write.proofs.texts.write_signature.Goals as goal

pub returns-then-buf-at : goal.returns-then-buf-at
returns-then-buf-at c =
    let it = λ (o : Order). outside (signature_bytes o c.args.val.now) _ _ c.if-buf-at.true _ c.refuse.ensures in
    record { value = λ o. (it o).0; buf_after = λ o. (it o).1 }

pub put_sized-requires : goal.put_sized-requires
put_sized-requires c =
    let h = signature-small _ _ (sym c.in_default.is ∙ c.parse_description.ensures) in
    record { width = tt; narrow = omega arith; small = omega arith; within = c.if-buf-at.false }

pub returns : goal.returns
returns c =
    let a = c.args in
    let s = a.val.now in
    let put = c.put_sized.ensures in
    let e = sym c.in_default.is ∙ c.parse_description.ensures in
    let it = λ (o : Order). is-bytes (signature_bytes o s) a.buf.now a.place.0 c.if-buf-at.false _ (is-signature o s _ e) _ _ (put.value, put.buf_after) in
    record { value = λ o. (it o).0; buf_after = λ o. (it o).1 }

pub returns-in-Err : goal.returns-in-Err
returns-in-Err c =
    let s = c.args.val.now in
    let at : ℕ = c.args.place.0 in
    let e = sym c.in-Err.is ∙ c.parse_description.ensures in
    let bad : (o : Order) → (k : Fault) × (signature_bytes o s ≡ faulty k) × (_ ≡ refusal k 0) = λ o. not-signature o s _ e in
    let it = λ (o : Order). is-faulty (signature_bytes o s) _ _ c.if-buf-at.false _ (bad o).1 _ (c.moved.ensures ∙ ap (moved at) (bad o).2) in
    record { value = λ o. (it o).0; buf_after = λ o. (it o).1 }
