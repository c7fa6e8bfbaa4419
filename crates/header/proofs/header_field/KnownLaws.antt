-- A known field's value by the ways through the code: the padding, the value, and what the header keeps of it.
use Prim.Native.Nat.{ℕ, ◌+◌, ◌-◌, ◌≤◌}
use native.Mathlib.Omega.{arith}
use mathlib.Core.Bool.{true}
use mathlib.Core.List.{List}
use mathlib.Core.Path.{◌≡◌, ap, sym, subst, ◌∙◌}
use lib.ListN.{length, take, drop}
use lib.Seq.{length-take-le}
use Rattle.meaning.specs.declared.Order.{Order}
use Rattle.meaning.specs.declared.Refusal.{Refusal}
use Rattle.meaning.specs.declared.Place.{Place}
use Rattle.std.specs.Prelude.{Result, Ok, Err}
use Rattle.header.specs.declared.header_field.FieldEntry.{FieldEntry}
use Rattle.meaning.specs.declared.Entry.{Entry}
use Rattle.meaning.specs.declared.Entry.TheVariants.{Number, Text}
use Rattle.meaning.specs.declared.Fault.TheVariants.{InvalidBoolean, InvalidObjectPath}
use Rattle.meaning.specs.Types.{Base, u32, Raw, base, align_base}
use Rattle.meaning.specs.Signature.{code, parse}
use Rattle.meaning.specs.Number.{load}
use Rattle.meaning.specs.Text.{no_zero, is_path}
use Rattle.meaning.specs.Message.{exactly, wants}
use Rattle.meaning.specs.Reader.{got, ret, ◌>>=◌, ◌>>◌, check, bytes, reached_of}
use Rattle.meaning.specs.ReadValue.{any, padding, read_fix, read_text, read_sig, read_path, read_g, accept, bare_r, base_r}
use Rattle.meaning.proofs.Local.{bind-got, bind-fault, bind_inv, ret_inv}
use Rattle.meaning.proofs.Meets.{here-bind, bytes-bind-inv, check-bind-inv}
use Rattle.meaning.proofs.BaseMeets.{accept-inv}
use Rattle.meaning.proofs.Loop.{at-inv, refused-inv}
use Rattle.text.proofs.strings.Strings.{text-part}
use Rattle.meaning.specs.Header.{text_entry, entry_as}
use Rattle.header.specs.HeaderField.{Known, Stands, read_as, known_to}
use Rattle.header.proofs.header_field.CodeLaws.{Kept, by-kept, kept}

-- what was read where a known field's value is accepted
number_is : (o : Order) (b : List ℕ) (p v e : ℕ) → read_fix o u32 b p ≡ got v e → (p + 4 ≤ length b) × (v ≡ load o (take 4 (drop p b)))
unfolding read_fix
number_is o b p v e h =
    let i = bytes-bind-inv 4 p (λ xs. check true InvalidBoolean p >> ret (load o xs)) b p v e (sym (here-bind (λ q. bytes 4 q >>= λ xs. check true InvalidBoolean q >> ret (load o xs)) b p) ∙ h) in
    let j = check-bind-inv true InvalidBoolean p (λ z. ret (load o i.0)) b i.1 v e i.6 in
    let w = ret_inv (load o i.0) b i.1 v e j.1 in
    (omega (arith, i.5, i.4.end, i.2), sym w.0 ∙ ap (load o) i.3)

text-ends : (o : Order) (b : List ℕ) (p : ℕ) (v : List ℕ) (e : ℕ) → read_text o b p ≡ got v e → e ≡ p + 4 + (length v + 1)
unfolding read_text
text-ends o b p v e h = (text-part o 4 no_zero b p v e h).0

path-ends : (o : Order) (b : List ℕ) (p : ℕ) (v : List ℕ) (e : ℕ) → read_path o b p ≡ got v e → e ≡ p + 4 + (length v + 1)
unfolding read_path
path-ends o b p v e h =
    let i = bind_inv (read_text o) (λ s. check (is_path s) InvalidObjectPath p >> ret s) b p v e (sym (here-bind (λ q. read_text o >>= λ s. check (is_path s) InvalidObjectPath q >> ret s) b p) ∙ h) in
    let j = check-bind-inv (is_path i.0) InvalidObjectPath p (λ z. ret i.0) b i.1 v e i.3 in
    let w = ret_inv i.0 b i.1 v e j.1 in
    text-ends o b p v e (i.2 ∙ ap (λ (s : List ℕ). got s i.1) w.0 ∙ ap (λ (k : ℕ). got v k) w.1)

spelling-ends : (o : Order) (b : List ℕ) (p : ℕ) (v : List ℕ) (e : ℕ) → read_g o b p ≡ got v e → e ≡ p + 1 + (length v + 1)
unfolding read_g read_sig
spelling-ends o b p v e h =
    let i = bind_inv (read_sig o) (λ s. accept (parse s) p >> ret s) b p v e (sym (here-bind (λ q. read_sig o >>= λ s. accept (parse s) q >> ret s) b p) ∙ h) in
    let j = bind_inv (accept (parse i.0) p) (λ z. ret i.0) b i.1 v e i.3 in
    let m = accept-inv (parse i.0) p b i.1 j.0 j.1 j.2 in
    let w = ret_inv i.0 b j.1 v e j.3 in
    (text-part o 1 any b p v e (i.2 ∙ ap (λ (s : List ℕ). got s i.1) w.0 ∙ ap (λ (k : ℕ). got v k) (m.1 ∙ w.1))).0

-- a text that begins w bytes after p
entry-is : (p w e : ℕ) (v : List ℕ) → e ≡ p + w + (length v + 1) → (p + w + 1 ≤ e) × (Text (record { 0 = p + w }) (record { 0 = e - 1 - (p + w) }) ≡ text_entry e v)
entry-is p w e v h =
    let l : e - 1 - (p + w) ≡ length v = omega arith in
    let s : e - 1 - length v ≡ p + w = omega arith in
    (omega arith, rw (l, s))

module _ (o : Order) (c k : ℕ) (b : Base) (b8 : Kept b) (is : k ≡ code b) (s : List ℕ) (p : ℕ) (v : Raw b) (e : ℕ) (h : bare_r o b s p ≡ got v e) where
  number-entry : k ≡ 117 → (p + 4 ≤ length s) × ((n : ℕ) → n ≡ load o (take 4 (drop p s)) → Number n ≡ entry_as e (base b, v))
  unfolding bare_r
  number-entry q =
      by-kept
      (λ b. k ≡ code b → (v : Raw b) → bare_r o b s p ≡ got v e → (p + 4 ≤ length s) × ((n : ℕ) → n ≡ load o (take 4 (drop p s)) → Number n ≡ entry_as e (base b, v)))
      (λ i v h. let j = number_is o s p v e h in (j.0, λ n z. ap Number (z ∙ sym j.1)))
      (λ i v h. absurd (omega (arith, q, i))) (λ i v h. absurd (omega (arith, q, i))) (λ i v h. absurd (omega (arith, q, i))) b b8 is v h

  spelling-entry : k ≡ 103 → (p + 1 + 1 ≤ e) × (Text (record { 0 = p + 1 }) (record { 0 = e - 1 - (p + 1) }) ≡ entry_as e (base b, v))
  unfolding bare_r
  spelling-entry q =
      by-kept
      (λ b. k ≡ code b → (v : Raw b) → bare_r o b s p ≡ got v e → (p + 1 + 1 ≤ e) × (Text (record { 0 = p + 1 }) (record { 0 = e - 1 - (p + 1) }) ≡ entry_as e (base b, v)))
      (λ i v h. absurd (omega (arith, q, i))) (λ i v h. absurd (omega (arith, q, i))) (λ i v h. absurd (omega (arith, q, i)))
      (λ i v h. entry-is p 1 e v (spelling-ends o s p v e h)) b b8 is v h

  text-entry : (k ≡ 117 → ⊥) → (k ≡ 103 → ⊥) → (p + 4 + 1 ≤ e) × (Text (record { 0 = p + 4 }) (record { 0 = e - 1 - (p + 4) }) ≡ entry_as e (base b, v))
  unfolding bare_r
  text-entry m q =
      by-kept
      (λ b. k ≡ code b → (v : Raw b) → bare_r o b s p ≡ got v e → (p + 4 + 1 ≤ e) × (Text (record { 0 = p + 4 }) (record { 0 = e - 1 - (p + 4) }) ≡ entry_as e (base b, v)))
      (λ i v h. absurd (m i)) (λ i v h. entry-is p 4 e v (text-ends o s p v e h)) (λ i v h. entry-is p 4 e v (path-ends o s p v e h)) (λ i v h. absurd (q i)) b b8 is v h

-- what the code learns of a value that stands there, by the code of its type
module _ {o : Order} {k : ℕ} {buf : List ℕ} {at next c : ℕ} {b : Base} {v : Raw b} (h : Stands o k buf at next c b v) where
  pub is_number : k ≡ 117 → (at + 4 ≤ length buf) × ((n : ℕ) → n ≡ load o (take 4 (drop at buf)) → Number n ≡ entry_as next (base b, v))
  is_number e = number-entry o c k b (kept c b h.asks) h.is buf at v next h.reads e

  pub is-spelling : k ≡ 103 → (at + 1 + 1 ≤ next) × (Text (record { 0 = at + 1 }) (record { 0 = next - 1 - (at + 1) }) ≡ entry_as next (base b, v))
  is-spelling e = spelling-entry o c k b (kept c b h.asks) h.is buf at v next h.reads e

  pub is-text : (k ≡ 117 → ⊥) → (k ≡ 103 → ⊥)
      → (at + 4 + 1 ≤ next) × (Text (record { 0 = at + 4 }) (record { 0 = next - 1 - (at + 4) }) ≡ entry_as next (base b, v))
  is-text m e = text-entry o c k b (kept c b h.asks) h.is buf at v next h.reads m e

module _ (o : Order) (c k : ℕ) (kn : Known c k) (buf : List ℕ) (off : ℕ) where
  abbrev of : Base
  of = kn.of

  -- no other type is asked for
  pub only : (r : Result FieldEntry Refusal) → r ≡ known_to c of (base_r o of buf off) → (b : Base) → wants c ≡ exactly b → r ≡ known_to c b (base_r o b buf off)
  only r h b e = let z : of ≡ b = let y = kn.asks in cc in subst (λ (d : Base). r ≡ known_to c d (base_r o d buf off)) z h

  pub pad-stop : (x : Refusal) → reached_of (padding (align_base of) buf off) ≡ Err x → Err x ≡ known_to c of (base_r o of buf off)
  unfolding base_r
  pad-stop x h = sym (ap (known_to c of) (bind-fault (padding (align_base of)) (λ z. bare_r o of) buf off x (refused-inv (padding (align_base of) buf off) x h)))

  module _ (p : Place) (pads : reached_of (padding (align_base of) buf off) ≡ Ok p) where
    past : base_r o of buf off ≡ bare_r o of buf p.0
    unfolding base_r
    past = let i = at-inv (padding (align_base of) buf off) p pads in bind-got (padding (align_base of)) (λ z. bare_r o of) buf off i.0 p.0 i.1

    pub bare-stop : (x : Refusal) → reached_of (bare_r o of buf p.0) ≡ Err x → Err x ≡ known_to c of (base_r o of buf off)
    bare-stop x h = sym (ap (known_to c of) (past ∙ refused-inv (bare_r o of buf p.0) x h))

    module _ (q : Place) (reads : reached_of (bare_r o of buf p.0) ≡ Ok q) where
      abbrev pub value : (v : Raw of) × (bare_r o of buf p.0 ≡ got v q.0)
      value = at-inv (bare_r o of buf p.0) q reads

      pub stood : Stands o k buf p.0 q.0 c of value.0
      stood = record { asks = kn.asks; is = kn.is; reads = value.1 }

      pub holds : (n : Entry) (r : Result FieldEntry Refusal) → n ≡ entry_as q.0 (base of, value.0) → r ≡ read_as q.0 c n → r ≡ known_to c of (base_r o of buf off)
      holds n r h g = g ∙ ap (λ (y : Entry). read_as q.0 c y) h ∙ sym (ap (known_to c of) (past ∙ value.1))
