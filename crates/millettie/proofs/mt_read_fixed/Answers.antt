-- The value and its check in the named order, handed out.
use Prim.Native.Nat.{ℕ}
use mathlib.Core.List.{List}
use mathlib.Core.Path.{◌≡◌, refl, sym, ap, ◌∙◌}
use Rattle.meaning.specs.declared.Order.{Order}
use Rattle.std.specs.Prelude.{Result}
use Rattle.meaning.specs.declared.FixedValue.{FixedValue}
use Rattle.meaning.specs.declared.Refusal.{Refusal}
use Rattle.meaning.specs.ReadValue.{check_value}
use Rattle.meaning.specs.FixedValue.{read_fixed}
use Rattle.structs.specs.declared.MtAnswer.{MtAnswer}
use Rattle.millettie.specs.declared.MtFixed.{MtFixed}
use Rattle.millettie.specs.Fixed.{fixed_of}
use borrow.Author.Rules.{rules}
use Rattle.millettie.proofs.mt_read_fixed.Goals as goal

made : {a b : MtAnswer} {k l x y : ℕ} → a ≡ b → k ≡ l → x ≡ y → ◌≡◌ {A = MtFixed} (record { answer = a; kind = k; bits = x }) (record { answer = b; kind = l; bits = y })
made e f g = rw (e, f, g) refl

-- what the answer is made of, where the value was read in an order that is named
named : {o p : Order} (e : o ≡ p) (sig buf : List ℕ) (off : ℕ) {r x : Result FixedValue Refusal} → r ≡ read_fixed o sig buf off → r ≡ x
    → fixed_of x (check_value p sig buf off) ≡ fixed_of (read_fixed p sig buf off) (check_value p sig buf off)
named {o} {p} e sig buf off q k =
    ap (λ (x : Result FixedValue Refusal). fixed_of x (check_value p sig buf off)) (sym k ∙ q ∙ ap (λ (o : Order). read_fixed o sig buf off) e)

pub returns-in-Ok : goal.returns-in-Ok
returns-in-Ok c =
    let a = c.args in
    made c.mt_check_value.ensures c.letter.ensures c.bits.ensures
    ∙ named c.order.ensures a.sig.now a.buf.now a.offset c.unmarshal_fixed.ensures c.in-Ok.is

pub returns-in-Err : goal.returns-in-Err
returns-in-Err c =
    let a = c.args in
    made c.refused.ensures refl refl
    ∙ named c.order.ensures a.sig.now a.buf.now a.offset c.unmarshal_fixed.ensures c.in-Err.is
