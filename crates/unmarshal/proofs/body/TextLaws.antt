-- What the header keeps of a field with a text leads back to that text inside the message.
use Prim.Native.Nat.{ℕ, ◌+◌, ◌-◌, ◌≤◌}
use native.Mathlib.Omega.{arith}
use mathlib.Core.Bool.{Bool, true, false}
use mathlib.Core.List.{List, [], ◌∷◌, ◌++◌}
use mathlib.Core.Path.{◌≡◌, refl, ap, sym, subst, ◌∙◌}
use lib.ListN.{length, take, drop}
use lib.Dec.{eqb}
use Rattle.meaning.specs.declared.Order.{Order}
use Rattle.meaning.specs.declared.Entry.{Entry}
use Rattle.meaning.specs.declared.Entry.TheVariants.{Absent, Number, Text}
use Rattle.meaning.specs.Types.{Base, fix, str, path, sig, base, arr, dict, struct, variant, Raw, Var, align_base}
use Rattle.meaning.specs.Signature.{spell}
use Rattle.meaning.specs.Number.{store}
use Rattle.meaning.specs.Value.{◌▹◌, pad, raw, each, sized, bare, enc_base, enc, enc_var}
use Rattle.meaning.specs.Message.{Field, enc_field, text_of, text}
use Rattle.meaning.specs.Header.{entry_as, end_of, entry}
use Rattle.unmarshal.specs.Body.{cut_of}
use Rattle.meaning.proofs.Meets.{At, at_split, at_read, then_at}

-- a text lies before e
abbrev pub Before : ℕ → Entry → Type 0
Before e Absent = Unit {0}
Before e (Number n) = Unit {0}
Before e (Text p l) = p.0 + l.0 ≤ e

module _ (b : List ℕ) where
  -- a text ends with a zero
  sized-ends : (o : Order) (w m : ℕ) (v : List ℕ) (e : ℕ) → At b m (sized o w v) e → (take (length v) (drop (e - 1 - length v) b) ≡ v) × (e - 1 - length v + length v ≤ e)
  unfolding sized
  sized-ends o w m v e h =
      let i = at_split b m (store o w (length v)) (v ++ 0 ∷ []) e h in
      let q : ℕ = m + length (store o w (length v)) in
      let j = at_split b q v (0 ∷ []) e i.1 in
      let z : e - 1 - length v ≡ q = omega (arith, j.1.end) in
      (ap (λ (k : ℕ). take (length v) (drop k b)) z ∙ at_read b q v _ j.0, omega arith)

  -- a variant that holds a basic value ends with that value
  var-ends : (o : Order) (k : Base) (v : Raw k) (off e : ℕ) → At b off (enc_var o 16 (base k, v) off) e → (m : ℕ) × At b m (bare o k v) e
  unfolding enc_var enc enc_base
  var-ends o k v off e h =
      let i = then_at b off (raw (bare o sig (spell (base k)))) (pad (align_base k) ▹ raw (bare o k v)) e h in
      let j = then_at b _ (pad (align_base k)) (raw (bare o k v)) e i.1 in
      (_, j.1)

  field-ends : (o : Order) (c : ℕ) (k : Base) (v : Raw k) (off e : ℕ) → At b off (enc_field o (c, (base k, v)) off) e → (m : ℕ) × At b m (bare o k v) e
  unfolding enc_field
  field-ends o c k v off e h =
      let i = then_at b off (pad 8) (raw (c ∷ []) ▹ enc_var o 16 (base k, v)) e h in
      let j = then_at b _ (raw (c ∷ [])) (enc_var o 16 (base k, v)) e i.1 in
      var-ends o k v _ e j.1

  text-field : (o : Order) (d : List ℕ) (f : Field) (off e : ℕ) (v : List ℕ) (w : ℕ) → At b off (enc_field o f off) e → ((m : ℕ) × At b m (sized o w v) e)
      → (v ≡ take (length v) (drop (end_of o f off - 1 - length v) b)) × (end_of o f off - 1 - length v + length v ≤ e)
  text-field o d f off e v w h s =
      let i = sized-ends o w s.0 v e s.1 in
      let z : e ≡ end_of o f off = h.end in
      subst (λ (n : ℕ). (v ≡ take (length v) (drop (n - 1 - length v) b)) × (n - 1 - length v + length v ≤ e)) z (sym i.0, i.1)

  one_field : (o : Order) (d : List ℕ) (c : ℕ) (w : Var 16) (off e : ℕ) → At b off (enc_field o (c, w) off) e
      → (text_of d w ≡ cut_of d b (entry_as (end_of o (c, w) off) w)) × Before e (entry_as (end_of o (c, w) off) w)
  unfolding bare
  one_field o d c (base (fix k), v) off e h = (refl, tt)
  one_field o d c (base str, v) off e h = text-field o d (c, (base str, v)) off e v 4 h (field-ends o c str v off e h)
  one_field o d c (base path, v) off e h = text-field o d (c, (base path, v)) off e v 4 h (field-ends o c path v off e h)
  one_field o d c (base sig, v) off e h = text-field o d (c, (base sig, v)) off e v 1 h (field-ends o c sig v off e h)
  one_field o d c (arr t, v) off e h = (refl, tt)
  one_field o d c (dict x k t, v) off e h = (refl, tt)
  one_field o d c (struct fs, v) off e h = (refl, tt)
  one_field o d c (variant, v) off e h = (refl, tt)

  pub before_more : (x y : ℕ) (n : Entry) → x ≤ y → Before x n → Before y n
  before_more x y Absent h k = tt
  before_more x y (Number m) h k = tt
  before_more x y (Text p l) h k = omega arith

  -- the text of the first field with the code is the part that its entry says
  pub text-is : (o : Order) (d : List ℕ) (c : ℕ) (fs : List Field) (off e : ℕ) → At b off (each (enc_field o) fs off) e
      → (text d c fs ≡ cut_of d b (entry o c fs off)) × Before e (entry o c fs off)
  unfolding text entry each
  text-is o d c [] off e h = (refl, tt)
  text-is o d c (f ∷ fs) off e h =
      let i = then_at b off (enc_field o f) (each (enc_field o) fs) e h in
      go (eqb f.0 c) refl i.0 i.1.end (text-is o d c fs (end_of o f off) e i.1)
    where
      go : (x : Bool) → eqb f.0 c ≡ x → At b off (enc_field o f off) (end_of o f off) → e ≡ end_of o f off + length (each (enc_field o) fs (end_of o f off))
          → (text d c fs ≡ cut_of d b (entry o c fs (end_of o f off))) × Before e (entry o c fs (end_of o f off))
          → (text d c (f ∷ fs) ≡ cut_of d b (entry o c (f ∷ fs) off)) × Before e (entry o c (f ∷ fs) off)
      go true q a z ih =
          let k = one_field o d f.0 f.1 off (end_of o f off) a in
          let s : text d c (f ∷ fs) ≡ text_of d f.1 = rw (q, text) in
          let t : entry o c (f ∷ fs) off ≡ entry_as (end_of o f off) f.1 = rw (q, entry) in
          (s ∙ k.0 ∙ sym (ap (cut_of d b) t), subst (Before e) (sym t) (before_more (end_of o f off) e (entry_as (end_of o f off) f.1) (omega arith) k.1))
      go false q a z ih =
          let s : text d c (f ∷ fs) ≡ text d c fs = rw (q, text) in
          let t : entry o c (f ∷ fs) off ≡ entry o c fs (end_of o f off) = rw (q, entry) in
          (s ∙ ih.0 ∙ sym (ap (cut_of d b) t), subst (Before e) (sym t) ih.1)
