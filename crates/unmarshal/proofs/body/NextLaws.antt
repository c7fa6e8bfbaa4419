-- A message after its field table by the ways through the code: the padding, the body's end, its values, and the header that comes of it.
use Prim.Native.Nat.{ℕ, ◌+◌, ◌-◌, ◌≤◌, ◌<◌}
use native.Mathlib.Omega.{arith}
use mathlib.Core.List.{List, []}
use mathlib.Core.Path.{◌≡◌, refl, ap, sym, subst, ◌∙◌}
use lib.ListN.{length, take, drop}
use Rattle.meaning.specs.declared.Order.{Order}
use Rattle.meaning.specs.declared.Refusal.{Refusal}
use Rattle.meaning.specs.declared.Place.{Place}
use Rattle.std.specs.Prelude.{Result, Ok, Err}
use Rattle.meaning.specs.declared.Entry.{Entry}
use Rattle.meaning.specs.declared.Entry.TheVariants.{Absent, Number, Text}
use Rattle.meaning.specs.declared.Fields.{Fields}
use Rattle.meaning.specs.declared.Header.{Header}
use Rattle.meaning.specs.declared.Fault.TheVariants.{NotEnoughBytes, InvalidHeaderFields}
use Rattle.meaning.specs.Faults.{refusal, moved}
use Rattle.meaning.specs.Types.{Ty}
use Rattle.meaning.specs.Signature.{parse, Parsed, types}
use Rattle.meaning.specs.Number.{store}
use Rattle.meaning.specs.Value.{each, Each, OkLength}
use Rattle.meaning.specs.Message.{Field, enc_field, OkField, complete, body_signature, Fixed, Message, body_at, body_of, encode_all, table}
use Rattle.meaning.specs.Reader.{got, fault, ret, ◌>>◌, inside, reached_of}
use Rattle.meaning.specs.ReadValue.{padding, accept}
use Rattle.meaning.specs.ReadMessage.{at_zero, table_r, open_r, body_r, message_of, read_message}
use Rattle.meaning.specs.Header.{entry, header_of, header_from, read_header}
use Rattle.meaning.proofs.NumberLaws.{Bytes, length-store}
use Rattle.meaning.proofs.Local.{bind-got, bind-fault, window-yes, window-no, window-end}
use Rattle.meaning.proofs.Meets.{At, at_split, check_bind}
use Rattle.meaning.proofs.BaseMeets.{accept-got}
use Rattle.meaning.proofs.Loop.{at-inv, refused-inv}
use Rattle.meaning.proofs.MessageLocal.{at_zero-got, fixed_r-local, table_r-local, body_r-bounded, body_r-full}
use Rattle.meaning.proofs.MessageMeets.{table_rs, open-sound, body-sound}
use Rattle.meaning.proofs.MessageDemands.{spelled-types}
use Rattle.header.specs.declared.fixed_header.Start.{Start}
use Rattle.meaning.specs.declared.Part.{Part}
use Rattle.header.specs.FixedHeader.{start_of}
use Rattle.meaning.specs.Header.{fields_from}
use Rattle.unmarshal.specs.Body.{Types, Held, part_of}
use Rattle.unmarshal.proofs.body.AfterLaws.{after2, after3, body_then, opens, not_opened}
use Rattle.unmarshal.specs.Body.{cut_of}
use Rattle.unmarshal.proofs.body.TextLaws.{Before, text-is}

-- the header as the code puts it together, of a message of l bytes whose body begins at p
abbrev header_by : Start → Fields → ℕ → ℕ → Header
header_by s f p l = record {
  order = s.order;
  kind = s.kind;
  flags = s.flags;
  version = s.version;
  serial = s.serial;
  length = record { 0 = l };
  body = record { 0 = p };
  body_length = record { 0 = s.body.0 };
  fields = f;
}

-- the part of the message that an entry stands for, as the code cuts it out
abbrev stop_of : Part → ℕ
stop_of t = t.0.0 + t.1.0

abbrev cut_by : Part → List ℕ → List ℕ
cut_by t b = take (stop_of t - t.0.0) (drop t.0.0 b)

part_cut : (b : List ℕ) (e : Entry) → cut_by (part_of e) b ≡ cut_of [] b e
part_cut b Absent = refl
part_cut b (Number n) = refl
part_cut b (Text p l) = let z : p.0 + l.0 - p.0 ≡ l.0 = omega arith in ap (λ (n : ℕ). take n (drop p.0 b)) z

part-within : (n : ℕ) (e : Entry) → Before n e → stop_of (part_of e) ≤ n
part-within n Absent h = omega arith
part-within n (Number m) h = omega arith
part-within n (Text p l) h = h

-- the fields begin after the table's length
pub each_at : (b : List ℕ) (o : Order) (fs : List Field) (e : ℕ) → At b 12 (table o fs 12) e → At b 16 (each (enc_field o) fs 16) e
unfolding table
each_at b o fs e h =
    let n : ℕ = length (each (enc_field o) fs 16) in
    let i = at_split b 12 (store o 4 n) (each (enc_field o) fs 16) e h in
    let z : 12 + length (store o 4 n) ≡ 16 = ap (λ (k : ℕ). 12 + k) (length-store o 4 n) in
    subst (λ (k : ℕ). At b k (each (enc_field o) fs 16) e) z i.1

-- the padding before the body is what the code read from the table
pub pads-to : {a : ℕ} (b : List ℕ) (end : ℕ) (r s : Result Place Refusal) → a ≡ 8 → r ≡ reached_of (padding a b end) → r ≡ s → reached_of (padding 8 b end) ≡ s
pads-to b end r s e h k = sym (h ∙ ap (λ (x : ℕ). reached_of (padding x b end)) e) ∙ k

module _ (b : List ℕ) (start : Start) (fields : Fields) (end : ℕ) (h : Held b start fields end) where
  abbrev o : Order
  o = h.head.0.order

  first-bytes : 12 ≤ length b
  first-bytes = (fixed_r-local.bound b 0 h.head 12 (omega arith) h.begins).1

  pub held-within : end ≤ length b
  held-within = ((table_r-local o).bound b 12 h.list end first-bytes h.tabled).1

  opened : open_r b 0 ≡ (padding 8 >> after3 h.head h.list) b end
  opened =
      opens b h.head h.begins ∙ bind-got (table_r o) (after2 h.head) b 12 h.list end h.tabled
      ∙ check_bind (complete h.head.0.kind h.list) InvalidHeaderFields 0 (λ z. padding 8 >> after3 h.head h.list) b end h.whole

  pub next-stop : (x y : Refusal) → reached_of (padding 8 b end) ≡ Err x → y ≡ moved 0 x → Err y ≡ read_header b
  next-stop x y q e =
      let z : padding 8 b end ≡ fault x = refused-inv (padding 8 b end) x q in
      not_opened b x y (opened ∙ bind-fault (padding 8) (λ u. after3 h.head h.list) b end x z) e

  module _ (y : Bytes b) where
    abbrev sound : (Each (enc_field o) (OkField o) h.list 16 × OkLength (length (each (enc_field o) h.list 16))) × At b 12 (table o h.list 12) end
    sound = (table_rs o).sound b y 12 h.list end first-bytes h.tabled

    fields_at : At b 16 (each (enc_field o) h.list 16) end
    fields_at = each_at b o h.list end sound.1

    abbrev spelled : (ts : List Ty) × (parse (body_signature h.list) ≡ types ts)
    spelled = spelled-types o h.list 16 sound.0.0

    abbrev tys : List Ty
    tys = spelled.0

    sig-is : fields.signature ≡ entry o 8 h.list 16
    sig-is = ap (λ (f : Fields). f.signature) h.kept

    before : Before end fields.signature
    before = subst (Before end) (sym sig-is) (text-is b o [] 8 h.list 16 end fields_at).1

    -- field 8's text, as the code cuts it out of the message
    module _ (part : Part) (cut : part ≡ part_of fields.signature) where
      pub sig-within : stop_of part ≤ length b
      sig-within =
          let i = part-within end fields.signature before in
          let z : stop_of part ≡ stop_of (part_of fields.signature) = ap (λ (p : Part). stop_of p) cut in
          omega (arith, held-within)

      spells : parse (cut_by part b) ≡ types tys
      spells =
          ap (λ (p : Part). parse (cut_by p b)) cut
          ∙ ap parse (part_cut b fields.signature ∙ ap (cut_of [] b) sig-is ∙ sym (text-is b o [] 8 h.list 16 end fields_at).0) ∙ spelled.1

      pub sig-types : Types (cut_by part b)
      sig-types = record { tys = tys; parsed = spells }

      module _ (p : Place) (pads : reached_of (padding 8 b end) ≡ Ok p) where
        whole : open_r b 0 ≡ got (h.head, (h.list, tys)) p.0
        unfolding ret
        whole =
            let i = at-inv (padding 8 b end) p pads in
            opened ∙ bind-got (padding 8) (λ u. after3 h.head h.list) b end i.0 p.0 i.1
            ∙ bind-got (accept (parse (body_signature h.list)) 0) (λ ts. ret (h.head, (h.list, ts))) b p.0 tys p.0
            (ap (λ (q : Parsed). accept q 0 b p.0) spelled.1 ∙ accept-got tys 0 b p.0)

        abbrev n : ℕ
        n = h.head.1

        size_is : start.body.0 ≡ n
        size_is = ap (λ (s : Start). s.body.0) h.starts

        reads : read_message b 0 ≡ body_then (h.head, (h.list, tys)) b p.0
        unfolding read_message
        reads = bind-got (at_zero open_r) body_then b 0 (h.head, (h.list, tys)) p.0 (at_zero-got open_r b 0 (h.head, (h.list, tys)) p.0 whole)

        pub body-over : (x : Refusal) → length b < p.0 + start.body.0 → x ≡ refusal NotEnoughBytes 0 → Err x ≡ read_header b
        unfolding read_header
        body-over x l e =
            rw e (sym (ap header_from (reads ∙ bind-fault (inside n (body_r o tys)) (λ vs. ret (message_of (h.head, (h.list, tys)) vs)) b p.0
            (refusal NotEnoughBytes 0) (window-no _ _ n (body_r o tys) b p.0 (omega (arith, size_is))))))

        module _ (fits : p.0 + start.body.0 ≤ length b) (q : Result Place Refusal)
            (answers : (ts : List Ty) → parse (cut_by part b) ≡ types ts → q ≡ reached_of (body_r start.order ts (take (p.0 + start.body.0) b) p.0)) where
          body_is : q ≡ reached_of (inside n (body_r o tys) b p.0)
          body_is =
              answers tys spells ∙ ap (λ (s : Start). reached_of (body_r s.order tys (take (p.0 + s.body.0) b) p.0)) h.starts
              ∙ sym (ap reached_of (window-yes _ _ n (body_r o tys) b p.0 (omega (arith, size_is))))

          pub body_refused : (x : Refusal) → q ≡ Err x → Err x ≡ read_header b
          unfolding read_header
          body_refused x k =
              sym (ap header_from (reads ∙ bind-fault (inside n (body_r o tys)) (λ vs. ret (message_of (h.head, (h.list, tys)) vs)) b p.0 x
              (refused-inv (inside n (body_r o tys) b p.0) x (sym body_is ∙ k))))

          pub body-read : (e : Place) → q ≡ Ok e
              → Ok (header_by start fields p.0 (p.0 + start.body.0)) ≡ read_header b
          unfolding read_header ret
          body-read e k =
              let i = at-inv (inside n (body_r o tys) b p.0) e (sym body_is ∙ k) in
              let m : Message = message_of (h.head, (h.list, tys)) i.0 in
              let z : e.0 ≡ p.0 + n = window-end _ _ n (body_r o tys) (body_r-bounded o tys) (body_r-full o tys) b p.0 i.0 e.0 i.1 in
              let g : read_message b 0 ≡ got m e.0 = reads
              ∙ bind-got (inside n (body_r o tys)) (λ vs. ret (message_of (h.head, (h.list, tys)) vs)) b p.0 i.0 e.0 i.1 in
              let at : p.0 ≡ body_at o h.list = (open-sound b y (h.head, (h.list, tys)) p.0 whole).end in
              let s : length (encode_all o tys i.0 p.0) ≡ n = (body-sound o tys b y p.0 n i.0 e.0 i.1).2 in
              let len : length (body_of m) ≡ n = ap (λ (k : ℕ). length (encode_all o tys i.0 k)) (sym at) ∙ s in
              let hs = h.starts in
              let hk = h.kept in
              let size = size_is in
              let w : p.0 + start.body.0 ≡ e.0 = omega arith in
              made start fields p.0 e.0 m (p.0 + start.body.0) w at (size ∙ sym len) h.head hs refl hk ∙ sym (ap header_from g)
            where
              made : (s : Start) (f : Fields) (p e : ℕ) (m : Message) (l : ℕ) → l ≡ e → p ≡ body_at m.fixed.order m.fields → s.body.0 ≡ length (body_of m)
                  → (hd : Fixed × ℕ) → s ≡ start_of hd → hd.0 ≡ m.fixed → f ≡ fields_from m.fixed.order m.fields 16
                  → ◌≡◌ {A = Result Header Refusal} (Ok (header_by s f p l)) (Ok (header_of m e))
              made s f p e m l w at size hd hs hf hk =
                  let a : s.order ≡ m.fixed.order = ap (λ (x : Start). x.order) hs ∙ ap (λ (x : Fixed). x.order) hf in
                  let k : s.kind ≡ m.fixed.kind = ap (λ (x : Start). x.kind) hs ∙ ap (λ (x : Fixed). x.kind) hf in
                  let g : s.flags ≡ m.fixed.flags = ap (λ (x : Start). x.flags) hs ∙ ap (λ (x : Fixed). x.flags) hf in
                  let v : s.version ≡ m.fixed.version = ap (λ (x : Start). x.version) hs ∙ ap (λ (x : Fixed). x.version) hf in
                  let r : s.serial ≡ m.fixed.serial = ap (λ (x : Start). x.serial) hs ∙ ap (λ (x : Fixed). x.serial) hf in
                  cc
