-- The lookup by the ways through the code: a header, an entry for the code, and the part of the message that it says.
use Prim.Native.Nat.{ℕ, ◌+◌, ◌-◌, ◌≤◌, ◌<◌}
use native.Mathlib.Omega.{arith}
use mathlib.Core.Bool.{Bool, true, false, ◌||◌}
use mathlib.Core.List.{List}
use mathlib.Core.Path.{◌≡◌, refl, ap, sym, subst, ◌∙◌}
use lib.ListN.{length, take, drop, get_or}
use lib.Dec.{eqb, T, eqb→eq}
use Rattle.meaning.specs.declared.Order.{Order}
use Rattle.meaning.specs.declared.Refusal.{Refusal}
use Rattle.meaning.specs.declared.Place.{Place}
use Rattle.meaning.specs.declared.Length.{Length}
use Rattle.meaning.specs.declared.Entry.{Entry}
use Rattle.meaning.specs.declared.Entry.TheVariants.{Absent, Number, Text}
use Rattle.meaning.specs.Text.{pick}
use Rattle.meaning.specs.Message.{Field, text, Message, table}
use Rattle.meaning.specs.Reader.{Res, got, fault}
use Rattle.meaning.specs.ReadMessage.{read_message}
use Rattle.meaning.specs.Header.{entry, header_of, header_from, read_header, holds_text, lookup}
use Rattle.meaning.proofs.NumberLaws.{Bytes, bytes_of}
use Rattle.meaning.proofs.MessageLocal.{read_message-local}
use Rattle.meaning.proofs.MessageMeets.{message-sound, message-opens}
use Rattle.meaning.specs.Header.{fields_from}
use Rattle.lookup.specs.Found.{text_at, found_in}
use Rattle.unmarshal.specs.Body.{cut_of}
use Rattle.unmarshal.proofs.body.TextLaws.{Before, before_more, text-is}
use Rattle.unmarshal.proofs.body.NextLaws.{each_at}

-- a code that holds a text, with its entry, or none
data Chosen (o : Order) (fs : List Field) (c : ℕ) : Bool → Entry → Type 0 where
  is : {e : Entry} → e ≡ entry o c fs 16 → Chosen o fs c true e
  isnt : Chosen o fs c false Absent

chosen : (o : Order) (fs : List Field) (c : ℕ) → Chosen o fs c (holds_text c) (text_at c (fields_from o fs 16))
chosen o fs c = go (eqb c 1) (eqb c 2) (eqb c 3) (eqb c 4) (eqb c 6) (eqb c 7) (eqb c 8) refl refl refl refl refl refl refl
  where
    at : (k : ℕ) → eqb c k ≡ true → entry o k fs 16 ≡ entry o c fs 16
    at k e = ap (λ (n : ℕ). entry o n fs 16) (sym (eqb→eq c k (subst T (sym e) tt)))

    go : (x1 x2 x3 x4 x6 x7 x8 : Bool) → eqb c 1 ≡ x1 → eqb c 2 ≡ x2 → eqb c 3 ≡ x3 → eqb c 4 ≡ x4 → eqb c 6 ≡ x6 → eqb c 7 ≡ x7 → eqb c 8 ≡ x8
        → Chosen o fs c (x1 || x2 || x3 || x4 || x6 || x7 || x8)
        (pick x1 (entry o 1 fs 16) (pick x2 (entry o 2 fs 16) (pick x3 (entry o 3 fs 16) (pick x4 (entry o 4 fs 16) (pick x6 (entry o 6 fs 16) (pick x7 (entry o 7 fs 16) (pick x8 (entry o 8 fs 16) Absent)))))))
    go true x2 x3 x4 x6 x7 x8 e1 e2 e3 e4 e6 e7 e8 = is (at 1 e1)
    go false true x3 x4 x6 x7 x8 e1 e2 e3 e4 e6 e7 e8 = is (at 2 e2)
    go false false true x4 x6 x7 x8 e1 e2 e3 e4 e6 e7 e8 = is (at 3 e3)
    go false false false true x6 x7 x8 e1 e2 e3 e4 e6 e7 e8 = is (at 4 e4)
    go false false false false true x7 x8 e1 e2 e3 e4 e6 e7 e8 = is (at 6 e6)
    go false false false false false true x8 e1 e2 e3 e4 e6 e7 e8 = is (at 7 e7)
    go false false false false false false true e1 e2 e3 e4 e6 e7 e8 = is (at 8 e8)
    go false false false false false false false e1 e2 e3 e4 e6 e7 e8 = isnt

-- what an entry says of the lookup's answer
pub record Looked (b : List ℕ) (c : ℕ) (d : List ℕ) (e : Entry) : Type 0 where
  pub cut : lookup b c d ≡ cut_of d b e
  pub within : Before (length b) e

module _ (b : List ℕ) (c : ℕ) (d : List ℕ) where
  refused : (x : Refusal) → read_message b 0 ≡ fault x → Looked b c d Absent
  unfolding lookup
  refused x z = decide (holds_text c) refl
    where
      decide : (a : Bool) → holds_text c ≡ a → Looked b c d Absent
      decide true r = record { cut = rw (r, lookup, z); within = tt }
      decide false r = record { cut = rw (r, lookup); within = tt }

  accepted : Bytes b → (m : Message) (n : ℕ) → read_message b 0 ≡ got m n → Looked b c d (text_at c (header_of m n).fields)
  unfolding lookup
  accepted y m n r =
      let ord : Order = m.fixed.order in
      let stop : ℕ = 12 + length (table ord m.fields 12) in
      let s = message-sound b y m n r in
      let o = message-opens b m n s.0 s.1 in
      let t = each_at b ord m.fields stop o.0.second in
      let l = (read_message-local.bound b 0 m n (omega arith) r).1 in
      let i = text-is b ord d c m.fields 16 stop t in
      let near : stop ≤ length b = omega (arith, o.0.third.end, o.1.end) in
      let before : Before (length b) (entry ord c m.fields 16) = before_more b stop (length b) (entry ord c m.fields 16) near i.1 in
      decide i.0 before (holds_text c) (text_at c (header_of m n).fields) refl (chosen ord m.fields c)
    where
      decide : text d c m.fields ≡ cut_of d b (entry m.fixed.order c m.fields 16) → Before (length b) (entry m.fixed.order c m.fields 16)
          → (a : Bool) (e : Entry) → holds_text c ≡ a → Chosen m.fixed.order m.fields c a e → Looked b c d e
      decide i j true e z (is u) = record {
        cut = (let v : lookup b c d ≡ text d c m.fields = rw (z, lookup, r) in v) ∙ i ∙ sym (ap (cut_of d b) u);
        within = subst (Before (length b)) (sym u) j;
      }
      decide i j false e z isnt = record { cut = (let v : lookup b c d ≡ d = rw (z, lookup) in v); within = tt }

  -- the entry that is found stands for what the lookup answers
  pub found-is : Bytes b → Looked b c d (found_in (read_header b) c)
  unfolding read_header
  found-is y = go (read_message b 0) refl
    where
      go : (x : Res Message) → read_message b 0 ≡ x → Looked b c d (found_in (header_from x) c)
      go (got m n) z = accepted y m n z
      go (fault v) z = refused v z

  module _ (small : (i : ℕ) → get_or b i 0 < 256) (e : Entry) (finds : e ≡ found_in (read_header b) c) where
    here : Looked b c d e
    here = subst (Looked b c d) (sym finds) (found-is (bytes_of b small))

    pub look-text : (p : Place) (l : Length) → e ≡ Text p l → (p.0 + l.0 ≤ length b) × (take (p.0 + l.0 - p.0) (drop p.0 b) ≡ lookup b c d)
    look-text p l g =
        let i = subst (Looked b c d) g here in
        let z : p.0 + l.0 - p.0 ≡ l.0 = omega arith in
        (i.within, ap (λ (n : ℕ). take n (drop p.0 b)) z ∙ sym i.cut)

    pub look-number : (n : ℕ) → e ≡ Number n → d ≡ lookup b c d
    look-number n g = sym (subst (Looked b c d) g here).cut

    pub look-absent : e ≡ Absent → d ≡ lookup b c d
    look-absent g = sym (subst (Looked b c d) g here).cut
