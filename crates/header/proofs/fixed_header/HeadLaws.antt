-- The first 12 bytes by the ways through the code.
use Prim.Native.Nat.{ℕ, ◌≤◌, ◌<◌}
use native.Mathlib.Omega.{arith}
use mathlib.Core.Bool.{Bool, true, false}
use mathlib.Core.List.{List}
use mathlib.Core.Path.{◌≡◌, refl, ap, ap₂, sym, subst, ◌∙◌}
use lib.ListN.{length, take, drop, get_or}
use lib.Seq.{get_or-take}
use lib.Dec.{T}
use Rattle.meaning.specs.declared.Order.{Order}
use Rattle.meaning.specs.declared.MessageType.{MessageType}
use Rattle.meaning.specs.declared.Refusal.{Refusal}
use Rattle.meaning.specs.declared.Fault.TheVariants.{NotEnoughBytes, InvalidByteOrder, InvalidMessageType}
use Rattle.meaning.specs.Faults.{refusal}
use Rattle.meaning.specs.Number.{load}
use Rattle.meaning.specs.Message.{Fixed}
use Rattle.meaning.specs.Reader.{got, R, ret, ◌>>◌, check, bytes}
use Rattle.meaning.specs.ReadMessage.{is_mark, order_of, is_kind, kind_of, fixed_in, size_in, fixed_r}
use Rattle.meaning.proofs.Local.{bind-got, bind-fault, bytes-yes, bytes-no}
use Rattle.meaning.proofs.Meets.{check_bind, check-stop}
use Rattle.util.proofs.Windows.{seen}
use Rattle.std.specs.Prelude.{Result, Ok, Err}
use Rattle.header.specs.FixedHeader.{began_of}

abbrev pub kind_then : List ℕ → R (Fixed × ℕ)
kind_then x = check (is_kind (get_or x 1 0)) InvalidMessageType 0 >> ret (fixed_in x, size_in x)

abbrev pub mark_then : List ℕ → R (Fixed × ℕ)
mark_then x = check (is_mark (get_or x 0 0)) InvalidByteOrder 0 >> kind_then x

-- what a byte was found to stand for, or not
module _ {A : Type 0} (v : A) (y : Refusal) where
  pub told : (a : Bool) (r : Result A Refusal) → r ≡ elim a [ true ↦ Ok v | false ↦ Err y ] → (w : A) → r ≡ Ok w → (a ≡ true) × (w ≡ v)
  told true r h w q = let z : Ok w ≡ Ok v = sym q ∙ h in (refl, cc)
  told false r h w q = absurd (let z : Ok w ≡ Err y = sym q ∙ h in let u : ◌≡◌ {A = ℕ} 0 1 = cc in omega arith)

  pub not-told : (a : Bool) (r : Result A Refusal) → r ≡ elim a [ true ↦ Ok v | false ↦ Err y ] → (x : Refusal) → r ≡ Err x → (a ≡ false) × (x ≡ y)
  not-told true r h x q = absurd (let z : Ok v ≡ Err x = sym h ∙ q in let u : ◌≡◌ {A = ℕ} 0 1 = cc in omega arith)
  not-told false r h x q = let z : Err x ≡ Err y = sym q ∙ h in (refl, cc)

module _ (b : List ℕ) where
  pub start-short : (x : Refusal) → length b < 12 → x ≡ refusal NotEnoughBytes 0 → Err x ≡ began_of (fixed_r b 0)
  unfolding fixed_r
  start-short x h e = rw e (sym (ap began_of (bind-fault (bytes 12 0) mark_then b 0 (refusal NotEnoughBytes 0) (bytes-no 12 0 b 0 h))))

  module _ (long : 12 ≤ length b) where
    abbrev first : List ℕ
    first = take 12 b

    twelve : fixed_r b 0 ≡ mark_then first b 12
    unfolding fixed_r
    twelve = bind-got (bytes 12 0) mark_then b 0 first 12 (bytes-yes 12 0 b 0 long)

    byte : (i : ℕ) → i < 12 → get_or first i 0 ≡ get_or b i 0
    byte i h = get_or-take 12 b i 0 h

    pub start-mark : (x : Refusal) → is_mark (get_or b 0 0) ≡ false → x ≡ refusal InvalidByteOrder 0 → Err x ≡ began_of (fixed_r b 0)
    start-mark x h e =
        rw e (sym (ap began_of (twelve ∙ check-stop (is_mark (get_or first 0 0)) (refusal InvalidByteOrder 0) (λ z. kind_then first) b 12 (ap is_mark (byte 0 (omega arith)) ∙ h))))

    module _ (mark : is_mark (get_or b 0 0) ≡ true) where
      marked : fixed_r b 0 ≡ kind_then first b 12
      marked = twelve ∙ check_bind (is_mark (get_or first 0 0)) InvalidByteOrder 0 (λ z. kind_then first) b 12 (subst T (sym (ap is_mark (byte 0 (omega arith)) ∙ mark)) tt)

      pub start-kind : (x : Refusal) → is_kind (get_or b 1 0) ≡ false → x ≡ refusal InvalidMessageType 0 → Err x ≡ began_of (fixed_r b 0)
      start-kind x h e =
          rw e (sym (ap began_of (marked ∙ check-stop (is_kind (get_or first 1 0)) (refusal InvalidMessageType 0) (λ z. ret (fixed_in first, size_in first)) b 12 (ap is_kind (byte 1 (omega arith)) ∙ h))))

      module _ (kind : is_kind (get_or b 1 0) ≡ true) where
        both : fixed_r b 0 ≡ got (fixed_in first, size_in first) 12
        unfolding ret
        both = marked ∙ check_bind (is_kind (get_or first 1 0)) InvalidMessageType 0 (λ z. ret (fixed_in first, size_in first)) b 12 (subst T (sym (ap is_kind (byte 1 (omega arith)) ∙ kind)) tt)

        pub start-read : (o : Order) (k : MessageType) (serial size : ℕ) → o ≡ order_of (get_or b 0 0) → k ≡ kind_of (get_or b 1 0)
            → serial ≡ load o (take 4 (drop 8 b)) → size ≡ load o (take 4 (drop 4 b))
            → Ok (record { order = o; kind = k; flags = get_or b 2 0; version = get_or b 3 0; serial = serial; body = record { 0 = size } }) ≡ began_of (fixed_r b 0)
        start-read o k serial size eo ek es en =
            let m : order_of (get_or first 0 0) ≡ o = ap order_of (byte 0 (omega arith)) ∙ sym eo in
            let n : kind_of (get_or first 1 0) ≡ k = ap kind_of (byte 1 (omega arith)) ∙ sym ek in
            let s : load (order_of (get_or first 0 0)) (take 4 (drop 8 first)) ≡ serial = ap₂ (λ (x : Order) (y : List ℕ). load x y) m (seen b 12 8 4 (omega arith) long) ∙ sym es in
            let z : load (order_of (get_or first 0 0)) (take 4 (drop 4 first)) ≡ size = ap₂ (λ (x : Order) (y : List ℕ). load x y) m (seen b 12 4 4 (omega arith) long) ∙ sym en in
            let f : get_or first 2 0 ≡ get_or b 2 0 = byte 2 (omega arith) in
            let v : get_or first 3 0 ≡ get_or b 3 0 = byte 3 (omega arith) in
            sym (ap began_of both ∙ cc)
