-- Demand 2 for messages.
use Prim.Native.Nat.{ℕ, ◌+◌, ◌^◌, ◌≤◌, ◌<◌}
use native.Mathlib.Omega.{arith}
use mathlib.Core.Bool.{Bool, true, false, ◌||◌}
use mathlib.Core.List.{List, [], ◌∷◌, ◌++◌}
use mathlib.Core.Path.{◌≡◌, refl, ap, ap₂, sym, subst, ◌∙◌}
use lib.ListN.{length, take, drop, get_or, length-append, length-drop, take-append-drop}
use lib.Seq.{length-take-le, take_all, take_at, drop_at}
use lib.Dec.{leb, eqb, T, eqb→eq, eqb_refl, leb→le, lit≤}
use Rattle.meaning.specs.Reader.{got, R, ret, fail, ◌>>=◌, ◌>>◌, check, inside, many}
use Rattle.meaning.proofs.Local.{Bounded, bind_inv, bind-got, ret_inv, window-got, window-inv, window-end}
use Rattle.meaning.specs.Types.{byte, bool, i16, u16, i32, u32, i64, u64, dbl, fd, Base, fix, str, path, sig, Ty, base, arr, dict, struct, variant}
use Rattle.meaning.specs.Signature.{code, spell, spell_all, legal, parse, Parsed, types, refused, is_base, toks, find}
use Rattle.meaning.proofs.SignatureLaws.{find-base, parse-sound, parse-complete, spelled-utf8}
use Rattle.meaning.specs.Number.{store, load, gap}
use Rattle.meaning.proofs.NumberLaws.{Bytes, bytes_take, bytes_drop, length-store, load_store, store-load, load_lt}
use Rattle.meaning.specs.Text.{pick, utf8}
use Rattle.meaning.specs.Value.{Layout, ◌▹◌, pad, raw, each, Cond, ok_then, Each, OkLength, sized, bare, enc, Ok, enc_var, OkVar, encode, Fits}
use Rattle.meaning.specs.ReadValue.{any, padding, read_sig, accept, length_r, and_r, read, read_var, read_top}
use Rattle.meaning.proofs.ValueLocal.{padding-local, read_var-local, read_top-local}
use Rattle.meaning.proofs.Meets.{At, at_split, at_join, at_none, at_read, at-then, then_at, mid_le, Meets, check_bind, check-bind-inv, check_inv, check-yes, bytes-bind, bytes-bind-inv, padding-sound, padding-complete, length-pad, padded, paired, many-sound, many-complete, at-widen, at-narrow, lengths, length-lt}
use Rattle.meaning.proofs.BaseMeets.{sizeds, under, accept-inv, accept-got}
use Rattle.meaning.proofs.ValueMeets.{values, variants, ne_var, top-meets, one-legal, legal-one, spell_one, ne-then}
use Rattle.meaning.specs.Message.{mark, kind_code, Wants, nothing, exactly, anything, wants, Holds, Field, enc_field, OkField, complete, body_signature, Values, encode_all, FitsAll, Fixed, Message, enc_fixed, table, body_at, frame, body_of, encode_message, OkFixed, Proper}
use Rattle.meaning.specs.declared.MessageType.{MessageType}
use Rattle.meaning.specs.declared.MessageType.TheVariants.{Call, Reply, Error, Signal}
use Rattle.meaning.specs.ReadMessage.{at_zero, ended, is_mark, order_of, is_kind, kind_of, fixed_in, size_in, table_in, message_size, fixed_r, byte_r, one_type, code_of, ask, type_r, field_r, table_r, Opened, open_r, values_r, body_r, message_of, read_message}
use Rattle.meaning.proofs.MessageLocal.{at_zero-inv, at_zero-got, ended-yes, ended-inv, byte_r-local, type_r-local, field_r-local, fields_r-bounded, fields_r-full, fixed_r-local, body_r-bounded, body_r-full}
use Rattle.meaning.specs.declared.Fault.TheVariants.{WrongSignature, InvalidByteOrder, InvalidMessageType, InvalidHeaderFields}
use Rattle.meaning.specs.declared.Order.{Order}
use Rattle.meaning.specs.declared.Order.TheVariants.{Little, Big}
use Rattle.meaning.proofs.Booleans.{and_left, and_right}

-- one thing and then another, which rests on it
module _ {A : Type 0} {B : A → Type 0} (r : R A) (s : (x : A) → R (B x)) (f : A → Layout) (g : (x : A) → B x → Layout) (k : A → Cond) (l : (x : A) → B x → Cond)
    (hr : Meets r f k) (hs : (x : A) → Meets (s x) (g x) (l x)) (br : Bounded r) where
  and_sound : (b : List ℕ) → Bytes b → (off : ℕ) (v : (x : A) × B x) (e : ℕ) → off ≤ length b → and_r r s b off ≡ got v e
      → ok_then (f v.0) (k v.0) (l v.0 v.1) off × At b off ((f v.0 ▹ g v.0 v.1) off) e
  unfolding and_r
  and_sound b y off v e n q =
      let i = bind_inv r (λ x. s x >>= λ z. ret (x, z)) b off v e q in
      let j = bind_inv (s i.0) (λ z. ret (i.0, z)) b i.1 v e i.3 in
      let w = ret_inv (i.0, j.0) b j.1 v e j.3 in
      let p = hr.sound b y off i.0 i.1 n i.2 in
      let t = (hs i.0).sound b y i.1 j.0 j.1 (br b off i.0 i.1 n i.2).1 j.2 in
      let t1 : At b i.1 (g i.0 j.0 i.1) e = subst (λ (x : ℕ). At b i.1 (g i.0 j.0 i.1) x) w.1 t.1 in
      let res : ok_then (f i.0) (k i.0) (l i.0 j.0) off × At b off ((f i.0 ▹ g i.0 j.0) off) e
      = ((p.0, subst (l i.0 j.0) p.1.end t.0), at-then b off (f i.0) (g i.0 j.0) i.1 e p.1 t1) in
      subst (λ (x : (x : A) × B x). ok_then (f x.0) (k x.0) (l x.0 x.1) off × At b off ((f x.0 ▹ g x.0 x.1) off) e) w.0 res

  and-complete : (b : List ℕ) (off : ℕ) (v : (x : A) × B x) (e : ℕ) → ok_then (f v.0) (k v.0) (l v.0 v.1) off → At b off ((f v.0 ▹ g v.0 v.1) off) e → e ≤ length b
      → and_r r s b off ≡ got v e
  unfolding and_r ret
  and-complete b off v e c t n =
      let p = then_at b off (f v.0) (g v.0 v.1) e t in
      let m : ℕ = off + length (f v.0 off) in
      bind-got r (λ x. s x >>= λ z. ret (x, z)) b off v.0 m (hr.complete b off v.0 m c.0 p.0 (mid_le b _ _ e p.1 n))
      ∙ bind-got (s v.0) (λ z. ret (v.0, z)) b m v.1 e ((hs v.0).complete b m v.1 e c.1 p.1 n)

  pub ands : Meets (and_r r s) (λ v. f v.0 ▹ g v.0 v.1) (λ v. ok_then (f v.0) (k v.0) (l v.0 v.1))
  ands = record { sound = and_sound; complete = and-complete }

-- one byte
one_byte : (x : List ℕ) → length x ≡ 1 → x ≡ get_or x 0 0 ∷ []
one_byte [] h = absurd (omega arith)
one_byte (c ∷ []) h = refl
one_byte (c ∷ d ∷ ds) h = absurd (omega arith)

first-lt : (x : List ℕ) → length x ≡ 1 → Bytes x → get_or x 0 0 < 256
first-lt [] h y = absurd (omega arith)
first-lt (c ∷ cs) h y = y.0

pub byte_rs : Meets byte_r (λ c. raw (c ∷ [])) (λ c off. c < 256)
unfolding byte_r ret
byte_rs = record {
  sound = λ b y off v e l q.
      (let i = bytes-bind-inv 1 0 (λ x. ret (get_or x 0 0)) b off v e q in
      let w = ret_inv (get_or i.0 0 0) b i.1 v e i.6 in
      let bx : Bytes i.0 = subst Bytes (sym i.3) (bytes_take 1 (drop off b) (bytes_drop off b y)) in
      let z : i.0 ≡ v ∷ [] = one_byte i.0 i.2 ∙ ap (λ (c : ℕ). c ∷ []) w.0 in (
        subst (λ (c : ℕ). c < 256) w.0 (first-lt i.0 i.2 bx),
        subst (λ (m : ℕ). At b off (v ∷ []) m) w.1 (subst (λ (x : List ℕ). At b off x i.1) z i.4),
      ));
  complete = λ b off v e k t l. bytes-bind 1 0 (λ x. ret (get_or x 0 0)) b off (v ∷ []) e refl t l;
}

-- a field's type
code-pos : (c : Base) → 1 ≤ code c
code-pos (fix byte) = lit≤ tt
code-pos (fix bool) = lit≤ tt
code-pos (fix i16) = lit≤ tt
code-pos (fix u16) = lit≤ tt
code-pos (fix i32) = lit≤ tt
code-pos (fix u32) = lit≤ tt
code-pos (fix i64) = lit≤ tt
code-pos (fix u64) = lit≤ tt
code-pos (fix dbl) = lit≤ tt
code-pos (fix fd) = lit≤ tt
code-pos str = lit≤ tt
code-pos path = lit≤ tt
code-pos sig = lit≤ tt

code-inj : (c d : Base) → code c ≡ code d → c ≡ d
code-inj c d h =
    let p : is_base c ≡ is_base d = sym (find-base c) ∙ ap (find toks) h ∙ find-base d in
    cc

code_of-inj : (t : Ty) (c : Base) → code_of t ≡ code c → t ≡ base c
code_of-inj (base d) c h = ap base (code-inj d c h)
code_of-inj (arr e) c h = absurd (omega (arith, code-pos c))
code_of-inj (dict f k e) c h = absurd (omega (arith, code-pos c))
code_of-inj (struct fs) c h = absurd (omega (arith, code-pos c))
code_of-inj variant c h = absurd (omega (arith, code-pos c))

ask-inv : (w : Wants) (t : Ty) (b : List ℕ) (off : ℕ) (v : Unit {0}) (e : ℕ) → ask w t b off ≡ got v e → Holds w t × (off ≡ e)
unfolding ask ret fail
ask-inv nothing t b off v e h = absurd (let z : ◌≡◌ {A = ℕ} 0 1 = cc in omega arith)
ask-inv (exactly c) t b off v e h =
    let i = check_inv (eqb (code_of t) (code c)) WrongSignature 0 b off v e h in
    (code_of-inj t c (eqb→eq (code_of t) (code c) i.0), i.1)
ask-inv anything t b off v e h = (tt, cc)

ask-yes : (w : Wants) (t : Ty) (b : List ℕ) (off : ℕ) → Holds w t → ask w t b off ≡ got tt off
unfolding ask ret
ask-yes nothing t b off h = absurd h
ask-yes (exactly c) t b off h = check-yes (eqb (code_of t) (code c)) WrongSignature 0 b off (subst (λ (u : Ty). T (eqb (code_of u) (code c))) (sym h) (eqb_refl (code c)))
ask-yes anything t b off h = refl

one_type-inv : (q : Parsed) (b : List ℕ) (off : ℕ) (t : Ty) (m : ℕ) → one_type q b off ≡ got t m → (q ≡ types (t ∷ [])) × (off ≡ m)
unfolding one_type ret fail
one_type-inv (types []) b off t m h = absurd (let z : ◌≡◌ {A = ℕ} 0 1 = cc in omega arith)
one_type-inv (types (e ∷ [])) b off t m h = (cc, cc)
one_type-inv (types (e ∷ d ∷ ds)) b off t m h = absurd (let z : ◌≡◌ {A = ℕ} 0 1 = cc in omega arith)
one_type-inv (refused k) b off t m h = absurd (let z : ◌≡◌ {A = ℕ} 0 1 = cc in omega arith)

one_type-got : (t : Ty) (b : List ℕ) (off : ℕ) → one_type (types (t ∷ [])) b off ≡ got t off
unfolding one_type ret
one_type-got t b off = refl

module _ (o : Order) (c : ℕ) where
  abbrev OkType : Ty → Cond
  OkType t off = T (legal t) × (length (spell t) ≤ 255) × Holds (wants c) t

  abbrev rest3 : Ty → R Ty
  rest3 t = ask (wants c) t >>= λ z. ret t

  abbrev rest2 : List ℕ → R Ty
  rest2 s = one_type (parse s) >>= λ t. rest3 t

  type-sound : (b : List ℕ) → Bytes b → (off : ℕ) (t : Ty) (e : ℕ) → off ≤ length b → type_r o c b off ≡ got t e → OkType t off × At b off (bare o sig (spell t)) e
  unfolding type_r read_sig bare
  type-sound b y off t e l q =
      let i = bind_inv (read_sig o) rest2 b off t e q in
      let j = bind_inv (one_type (parse i.0)) rest3 b i.1 t e i.3 in
      let k = bind_inv (ask (wants c) j.0) (λ z. ret j.0) b j.1 t e j.3 in
      let w = ret_inv j.0 b k.1 t e k.3 in
      let a = ask-inv (wants c) j.0 b j.1 k.0 k.1 k.2 in
      let n = one_type-inv (parse i.0) b i.1 j.0 j.1 j.2 in
      let p = parse-sound i.0 (j.0 ∷ []) n.0 in
      let s = (sizeds o 1 any).sound b y off i.0 i.1 l i.2 in
      let z : i.0 ≡ spell t = p.1 ∙ spell_one j.0 ∙ ap spell w.0 in
      let m : i.1 ≡ e = n.1 ∙ a.1 ∙ w.1 in (
        (subst (λ (u : Ty). T (legal u)) w.0 (one-legal j.0 p.0), subst (λ (u : List ℕ). length u ≤ 255) z p.2, subst (Holds (wants c)) w.0 a.0),
        subst (λ (u : ℕ). At b off (sized o 1 (spell t)) u) m (subst (λ (u : List ℕ). At b off (sized o 1 u) i.1) z s.1),
      )

  type-complete : (b : List ℕ) (off : ℕ) (t : Ty) (e : ℕ) → OkType t off → At b off (bare o sig (spell t)) e → e ≤ length b → type_r o c b off ≡ got t e
  unfolding type_r read_sig bare ret
  type-complete b off t e k a l =
      let s1 : spell t ≡ spell_all (t ∷ []) = sym (spell_one t) in
      let u : T (utf8 (spell t)) = subst (λ (z : List ℕ). T (utf8 z)) (spell_one t) (spelled-utf8 (t ∷ [])) in
      let q1 : read_sig o b off ≡ got (spell t) e = (sizeds o 1 any).complete b off (spell t) e (u, tt, omega (arith, k.1)) a l in
      let q2 : parse (spell t) ≡ types (t ∷ []) = ap parse s1 ∙ parse-complete (t ∷ []) (legal-one t k.0) (subst (λ (z : List ℕ). length z ≤ 255) s1 k.1) in
      bind-got (read_sig o) rest2 b off (spell t) e q1
      ∙ bind-got (one_type (parse (spell t))) rest3 b e t e (ap (λ (z : Parsed). one_type z b e) q2 ∙ one_type-got t b e)
      ∙ bind-got (ask (wants c) t) (λ z. ret t) b e tt e (ask-yes (wants c) t b e k.2)

  pub type_rs : Meets (type_r o c) (λ t. raw (bare o sig (spell t))) OkType
  type_rs = record { sound = type-sound; complete = type-complete }

-- fields
module _ (o : Order) where
  abbrev vals : (t : Ty) → Meets (read o (read_var o 15) t) (λ v. enc o (enc_var o 15) t v) (λ v. Ok o (enc_var o 15) (OkVar o 15) t v)
  vals t = values o (read_var o 15) (λ w. enc_var o 15 w) (λ w. OkVar o 15 w) (variants o 15) (read_var-local o 15) (ne_var o 15) t

  contents : (c : ℕ) → Meets (and_r (type_r o c) (λ t. read o (read_var o 15) t)) (λ w. enc_var o 16 w) (λ w off. Holds (wants c) w.0 × OkVar o 16 w off)
  unfolding enc_var OkVar
  contents c = under (and_r (type_r o c) (λ t. read o (read_var o 15) t)) (λ w. enc_var o 16 w)
      (λ w. ok_then (raw (bare o sig (spell w.0))) (OkType o c w.0) (Ok o (enc_var o 15) (OkVar o 15) w.0 w.1))
      (λ w off. Holds (wants c) w.0 × OkVar o 16 w off)
      (ands (type_r o c) (λ t. read o (read_var o 15) t) (λ t. raw (bare o sig (spell t))) (λ t v. enc o (enc_var o 15) t v) (OkType o c) (λ t v. Ok o (enc_var o 15) (OkVar o 15) t v)
      (type_rs o c) vals (type_r-local o c).bound)
      (λ w off. (λ x. (x.0.2, (x.0.0, x.0.1, (tt, x.1))), λ x. ((x.1.0, x.1.1, x.0), x.1.2.1)))

  pub field_rs : Meets (field_r o) (λ f. enc_field o f) (λ f. OkField o f)
  unfolding field_r enc_field OkField
  field_rs = padded 8 (and_r byte_r (λ c. and_r (type_r o c) (λ t. read o (read_var o 15) t))) (λ f. raw (f.0 ∷ []) ▹ enc_var o 16 f.1)
      (λ f. ok_then (raw (f.0 ∷ [])) (λ off. (f.0 < 256) × Holds (wants f.0) f.1.0) (OkVar o 16 f.1))
      (under (and_r byte_r (λ c. and_r (type_r o c) (λ t. read o (read_var o 15) t))) (λ f. raw (f.0 ∷ []) ▹ enc_var o 16 f.1)
      (λ f. ok_then (raw (f.0 ∷ [])) (λ off. f.0 < 256) (λ off. Holds (wants f.0) f.1.0 × OkVar o 16 f.1 off))
      (λ f. ok_then (raw (f.0 ∷ [])) (λ off. (f.0 < 256) × Holds (wants f.0) f.1.0) (OkVar o 16 f.1))
      (ands byte_r (λ c. and_r (type_r o c) (λ t. read o (read_var o 15) t)) (λ c. raw (c ∷ [])) (λ c w. enc_var o 16 w) (λ c off. c < 256) (λ c w off. Holds (wants c) w.0 × OkVar o 16 w off)
      byte_rs contents byte_r-local.bound)
      (λ f off. (λ x. ((x.0, x.1.0), x.1.1), λ x. (x.0.0, (x.0.1, x.1)))))
      (padding-local 8).bound

  -- a field takes a byte at least
  pub ne-field : (f : Field) (off : ℕ) → 1 ≤ length (enc_field o f off)
  unfolding enc_field
  ne-field f off = ne-then (pad 8) (raw (f.0 ∷ []) ▹ enc_var o 16 f.1) off (ne-then (raw (f.0 ∷ [])) (enc_var o 16 f.1) _ (ne_var o 16 f.1 _))

  -- the field table
  abbrev OkTable : List Field → Cond
  OkTable fs off = Each (enc_field o) (OkField o) fs (off + 4) × OkLength (length (each (enc_field o) fs (off + 4)))

  table-sound : (b : List ℕ) → Bytes b → (off : ℕ) (fs : List Field) (e : ℕ) → off ≤ length b → table_r o b off ≡ got fs e → OkTable fs off × At b off (table o fs off) e
  unfolding table_r table
  table-sound b y off fs e l q = go (bind_inv (length_r o) (λ n. inside n (many n (field_r o))) b off fs e q)
    where
      go : (n : ℕ) × (m : ℕ) × (length_r o b off ≡ got n m) × (inside n (many n (field_r o)) b m ≡ got fs e) → OkTable fs off × At b off (table o fs off) e
      go (n, m, q1, q2) =
          let ls = (lengths o).sound b y off n m l q1 in
          let m4 : m ≡ off + 4 = ls.1.end ∙ ap (λ (z : ℕ). off + z) (length-store o 4 n) in
          let t = window-inv _ _ n (many n (field_r o)) b m fs e q2 in
          let en : e ≡ m + n = window-end _ _ n (many n (field_r o)) (fields_r-bounded o n) (fields_r-full o n) b m fs e q2 in
          let cl : length (take (m + n) b) ≡ m + n = length-take-le (m + n) b t.0 in
          let s = many-sound (field_r o) (λ f. enc_field o f) (λ f. OkField o f) field_rs (field_r-local o).bound n (take (m + n) b) (bytes_take (m + n) b y) m fs e (rw cl (omega arith)) t.1 in
          let s1 : At b m (each (enc_field o) fs m) e = at-widen b m (m + n) (each (enc_field o) fs m) e t.0 (omega arith) en s.1 in
          let len : n ≡ length (each (enc_field o) fs (off + 4)) = (let z : n ≡ length (each (enc_field o) fs m) = omega (arith, s1.end) in z) ∙ ap (λ (z : ℕ). length (each (enc_field o) fs z)) m4 in (
            (subst (Each (enc_field o) (OkField o) fs) m4 s.0, subst OkLength len ls.0),
            at_join b off (store o 4 (length (each (enc_field o) fs (off + 4)))) m (each (enc_field o) fs (off + 4)) e
                (subst (λ (z : ℕ). At b off (store o 4 z) m) len ls.1) (subst (λ (z : ℕ). At b m (each (enc_field o) fs z) e) m4 s1),
          )

  table-complete : (b : List ℕ) (off : ℕ) (fs : List Field) (e : ℕ) → OkTable fs off → At b off (table o fs off) e → e ≤ length b → table_r o b off ≡ got fs e
  unfolding table_r table
  table-complete b off fs e c t l =
      let n : ℕ = length (each (enc_field o) fs (off + 4)) in
      let sp = at_split b off (store o 4 n) (each (enc_field o) fs (off + 4)) e t in
      let m4 : off + length (store o 4 n) ≡ off + 4 = ap (λ (z : ℕ). off + z) (length-store o 4 n) in
      let t1 : At b off (store o 4 n) (off + 4) = subst (λ (z : ℕ). At b off (store o 4 n) z) m4 sp.0 in
      let t2 : At b (off + 4) (each (enc_field o) fs (off + 4)) e = subst (λ (z : ℕ). At b z (each (enc_field o) fs (off + 4)) e) m4 sp.1 in
      let en : e ≡ off + 4 + n = t2.end in
      let u : off + 4 + n ≤ length b = omega arith in
      let t3 : At (take (off + 4 + n) b) (off + 4) (each (enc_field o) fs (off + 4)) (off + 4 + n)
      = at-narrow b (off + 4) (off + 4 + n) (each (enc_field o) fs (off + 4)) u (subst (λ (z : ℕ). At b (off + 4) (each (enc_field o) fs (off + 4)) z) en t2) in
      bind-got (length_r o) (λ n. inside n (many n (field_r o))) b off n (off + 4) ((lengths o).complete b off n (off + 4) c.1 t1 (mid_le b _ _ e t2 l))
      ∙ window-got _ _ n (many n (field_r o)) b (off + 4) fs (off + 4 + n) u
      (many-complete (field_r o) (λ f. enc_field o f) (λ f. OkField o f) field_rs (field_r-local o).bound ne-field fs n (take (off + 4 + n) b) (off + 4) (off + 4 + n) c.0 t3
      (sym (length-take-le (off + 4 + n) b u)) (omega arith))
      ∙ ap (λ (z : ℕ). got fs z) (sym en)

  pub table_rs : Meets (table_r o) (λ fs. table o fs) OkTable
  table_rs = record { sound = table-sound; complete = table-complete }

  -- the body's values
  pub values_rs : (ts : List Ty) → Meets (values_r o ts) (λ vs. encode_all o ts vs) (λ vs. FitsAll o ts vs)
  unfolding values_r encode_all FitsAll ret
  values_rs [] = record {
    sound = λ b y off v e l q. (tt, let z : off ≡ e = cc in subst (λ (m : ℕ). At b off [] m) z (at_none b off));
    complete = λ b off v e k t l. (let z : off ≡ e = omega (arith, t.end) in ap (λ (m : ℕ). got tt m) z);
  }
  values_rs (t ∷ ts) = paired (read_top o t) (values_r o ts) (λ v. encode o t v) (λ vs. encode_all o ts vs) (λ v. Fits o t v) (λ vs. FitsAll o ts vs)
      (top-meets o t) (values_rs ts) (read_top-local o t).bound

  -- a body of n bytes
  pub body-sound : (ts : List Ty) (b : List ℕ) → Bytes b → (m n : ℕ) (vs : Values ts) (e : ℕ) → inside n (body_r o ts) b m ≡ got vs e
      → FitsAll o ts vs m × At b m (encode_all o ts vs m) e × (length (encode_all o ts vs m) ≡ n)
  unfolding body_r
  body-sound ts b y m n vs e q =
      let t = window-inv _ _ n (body_r o ts) b m vs e q in
      let en : e ≡ m + n = window-end _ _ n (body_r o ts) (body_r-bounded o ts) (body_r-full o ts) b m vs e q in
      let c : List ℕ = take (m + n) b in
      let cl : length c ≡ m + n = length-take-le (m + n) b t.0 in
      let i = bind_inv (values_r o ts) (λ vs. ended >> ret vs) c m vs e t.1 in
      let j = bind_inv ended (λ z. ret i.0) c i.1 vs e i.3 in
      let w = ret_inv i.0 c j.1 vs e j.3 in
      let d = ended-inv c i.1 j.0 j.1 j.2 in
      let s = (values_rs ts).sound c (bytes_take (m + n) b y) m i.0 i.1 (rw cl (omega arith)) i.2 in
      let ee : i.1 ≡ e = d.1 ∙ w.1 in
      let s1 : At c m (encode_all o ts vs m) e = subst (λ (z : ℕ). At c m (encode_all o ts vs m) z) ee (subst (λ (z : Values ts). At c m (encode_all o ts z m) i.1) w.0 s.1) in
      let s2 : At b m (encode_all o ts vs m) e = at-widen b m (m + n) (encode_all o ts vs m) e t.0 (omega arith) en s1 in
      (subst (λ (z : Values ts). FitsAll o ts z m) w.0 s.0, s2, omega (arith, s2.end))

  pub body-complete : (ts : List Ty) (b : List ℕ) (m : ℕ) (vs : Values ts) (e : ℕ) → FitsAll o ts vs m → At b m (encode_all o ts vs m) e → e ≤ length b
      → inside (length (encode_all o ts vs m)) (body_r o ts) b m ≡ got vs e
  unfolding body_r ret
  body-complete ts b m vs e k t l =
      let n : ℕ = length (encode_all o ts vs m) in
      let en : e ≡ m + n = t.end in
      let u : m + n ≤ length b = omega arith in
      let c : List ℕ = take (m + n) b in
      let cl : length c ≡ m + n = length-take-le (m + n) b u in
      let t1 : At c m (encode_all o ts vs m) (m + n) = at-narrow b m (m + n) (encode_all o ts vs m) u (subst (λ (z : ℕ). At b m (encode_all o ts vs m) z) en t) in
      window-got _ _ n (body_r o ts) b m vs (m + n) u
      (bind-got (values_r o ts) (λ vs. ended >> ret vs) c m vs (m + n) ((values_rs ts).complete c m vs (m + n) k t1 (omega arith))
      ∙ bind-got ended (λ z. ret vs) c (m + n) tt (m + n) (ended-yes c (m + n) (omega arith)))
      ∙ ap (λ (z : ℕ). got vs z) (sym en)

-- the first 12 bytes
eq-cases : (c k : ℕ) (x : Bool) → eqb c k ≡ x → T x → c ≡ k
eq-cases c k x e h = eqb→eq c k (subst T (sym e) h)

no_eq : (c k : ℕ) → eqb c k ≡ false → c ≡ k → ⊥
no_eq c k e h = subst (λ (z : Bool). T z) e (subst (λ (z : ℕ). T (eqb c z)) h (eqb_refl c))

mark-in : (c : ℕ) → T (is_mark c) → mark (order_of c) ≡ c
mark-in c h = go (eqb c 108) (eqb c 66) refl refl h
  where
    go : (x y : Bool) → eqb c 108 ≡ x → eqb c 66 ≡ y → T (x || y) → mark (pick x Little Big) ≡ c
    go true y e f t = sym (eq-cases c 108 true e tt)
    go false true e f t = sym (eq-cases c 66 true f tt)
    go false false e f t = absurd t

kind-in : (c : ℕ) → T (is_kind c) → kind_code (kind_of c) ≡ c
kind-in c h = go (eqb c 1) (eqb c 2) (eqb c 3) refl refl refl
  where
    go : (x y z : Bool) → eqb c 1 ≡ x → eqb c 2 ≡ y → eqb c 3 ≡ z → kind_code (pick x Call (pick y Reply (pick z Error Signal))) ≡ c
    go true y z e f g = sym (eq-cases c 1 true e tt)
    go false true z e f g = sym (eq-cases c 2 true f tt)
    go false false true e f g = sym (eq-cases c 3 true g tt)
    go false false false e f g =
        let l1 : 1 ≤ c = leb→le 1 c (and_left (leb 1 c) (leb c 4) h) in
        let l4 : c ≤ 4 = leb→le c 4 (and_right (leb 1 c) (leb c 4) h) in
        let n1 : c ≡ 1 → ⊥ = no_eq c 1 e in
        let n2 : c ≡ 2 → ⊥ = no_eq c 2 f in
        let n3 : c ≡ 3 → ⊥ = no_eq c 3 g in
        omega arith

mark-ok : (o : Order) → T (is_mark (mark o))
mark-ok Little = tt
mark-ok Big = tt

mark-back : (o : Order) → order_of (mark o) ≡ o
mark-back Little = refl
mark-back Big = refl

kind_ok : (k : MessageType) → T (is_kind (kind_code k))
kind_ok Call = tt
kind_ok Reply = tt
kind_ok Error = tt
kind_ok Signal = tt

kind-back : (k : MessageType) → kind_of (kind_code k) ≡ k
kind-back Call = refl
kind-back Reply = refl
kind-back Error = refl
kind-back Signal = refl

store4 : (o : Order) (x : List ℕ) → Bytes x → length x ≡ 4 → (store o 4 (load o x) ≡ x) × (load o x < 256 ^ 4)
store4 o x y h = (subst (λ (n : ℕ). store o n (load o x) ≡ x) h (store-load o x y), subst (λ (n : ℕ). load o x < 256 ^ n) h (load_lt o x y))

two4 : (r : List ℕ) → length r ≡ 8 → take 4 r ++ take 4 (drop 4 r) ≡ r
two4 r h =
    let l : length (drop 4 r) ≤ 4 = rw length-drop (omega arith) in
    rw (take_all 4 (drop 4 r) l) (take-append-drop 4 r)

twelve : (x : List ℕ) → Bytes x → length x ≡ 12 → T (is_mark (get_or x 0 0)) → T (is_kind (get_or x 1 0))
    → (enc_fixed (fixed_in x) (size_in x) ≡ x) × OkFixed (fixed_in x) × (size_in x < 256 ^ 4)
unfolding enc_fixed
twelve [] y h p q = absurd (omega arith)
twelve (c ∷ []) y h p q = absurd (omega arith)
twelve (c ∷ d ∷ []) y h p q = absurd (omega arith)
twelve (c ∷ d ∷ f ∷ []) y h p q = absurd (omega arith)
twelve (c ∷ d ∷ f ∷ v ∷ r) y h p q =
    let h8 : length r ≡ 8 = omega arith in
    let yr : Bytes r = y.1.1.1.1 in
    let l1 : length (take 4 r) ≡ 4 = length-take-le 4 r (omega arith) in
    let l2 : length (take 4 (drop 4 r)) ≡ 4 = length-take-le 4 (drop 4 r) (rw length-drop (omega arith)) in
    let s1 = store4 (order_of c) (take 4 r) (bytes_take 4 r yr) l1 in
    let s2 = store4 (order_of c) (take 4 (drop 4 r)) (bytes_take 4 (drop 4 r) (bytes_drop 4 r yr)) l2 in (
      rw (mark-in c p, kind-in d q, s1.0, s2.0, two4 r h8),
      record { flags = y.1.1.0; version = y.1.1.1.0; serial = s2.1 },
      s1.1,
    )

pub length-fixed : (h : Fixed) (n : ℕ) → length (enc_fixed h n) ≡ 12
unfolding enc_fixed
length-fixed h n = rw (length-append, length-store h.order 4 n, length-store h.order 4 h.serial)

pub fixed_back : (h : Fixed) (n : ℕ) → OkFixed h → n < 256 ^ 4 → (fixed_in (enc_fixed h n) ≡ h) × (size_in (enc_fixed h n) ≡ n)
unfolding enc_fixed
fixed_back h n k l =
    let o : Order = h.order in
    let t1 : take 4 (store o 4 n ++ store o 4 h.serial) ≡ store o 4 n = take_at (store o 4 n) (store o 4 h.serial) 4 (length-store o 4 n) in
    let d1 : drop 4 (store o 4 n ++ store o 4 h.serial) ≡ store o 4 h.serial = drop_at (store o 4 n) (store o 4 h.serial) 4 (length-store o 4 n) in
    let t2 : take 4 (store o 4 h.serial) ≡ store o 4 h.serial = take_all 4 (store o 4 h.serial) (rw length-store (lit≤ tt)) in (
      rw (mark-back o, kind-back h.kind, d1, t2, load_store o 4 h.serial k.serial),
      rw (mark-back o, t1, load_store o 4 n l),
    )

abbrev OkHead : Fixed × ℕ → Cond
OkHead h off = OkFixed h.0 × (h.1 < 256 ^ 4)

abbrev checks : List ℕ → R (Fixed × ℕ)
checks x = check (is_mark (get_or x 0 0)) InvalidByteOrder 0 >> (check (is_kind (get_or x 1 0)) InvalidMessageType 0 >> ret (fixed_in x, size_in x))

fixed-sound : (b : List ℕ) → Bytes b → (off : ℕ) (h : Fixed × ℕ) (e : ℕ) → off ≤ length b → fixed_r b off ≡ got h e → OkHead h off × At b off (enc_fixed h.0 h.1) e
unfolding fixed_r
fixed-sound b y off h e l q =
    let i = bytes-bind-inv 12 0 checks b off h e q in
    let x : List ℕ = i.0 in
    let c1 = check-bind-inv (is_mark (get_or x 0 0)) InvalidByteOrder 0 (λ z. check (is_kind (get_or x 1 0)) InvalidMessageType 0 >> ret (fixed_in x, size_in x)) b i.1 h e i.6 in
    let c2 = check-bind-inv (is_kind (get_or x 1 0)) InvalidMessageType 0 (λ z. ret (fixed_in x, size_in x)) b i.1 h e c1.1 in
    let w = ret_inv (fixed_in x, size_in x) b i.1 h e c2.1 in
    let bx : Bytes x = subst Bytes (sym i.3) (bytes_take 12 (drop off b) (bytes_drop off b y)) in
    let t = twelve x bx i.2 c1.0 c2.0 in
    let z : x ≡ enc_fixed h.0 h.1 = sym t.0 ∙ ap (λ (u : Fixed × ℕ). enc_fixed u.0 u.1) w.0 in (
      subst (λ (u : Fixed × ℕ). OkFixed u.0 × (u.1 < 256 ^ 4)) w.0 (t.1, t.2),
      subst (λ (m : ℕ). At b off (enc_fixed h.0 h.1) m) w.1 (subst (λ (u : List ℕ). At b off u i.1) z i.4),
    )

mark-there : (h : Fixed) (n : ℕ) → T (is_mark (get_or (enc_fixed h n) 0 0))
unfolding enc_fixed
mark-there h n = mark-ok h.order

kind-there : (h : Fixed) (n : ℕ) → T (is_kind (get_or (enc_fixed h n) 1 0))
unfolding enc_fixed
kind-there h n = kind_ok h.kind

fixed-complete : (b : List ℕ) (off : ℕ) (h : Fixed × ℕ) (e : ℕ) → OkHead h off → At b off (enc_fixed h.0 h.1) e → e ≤ length b → fixed_r b off ≡ got h e
unfolding fixed_r ret
fixed-complete b off h e k t l =
    let x : List ℕ = enc_fixed h.0 h.1 in
    let bk = fixed_back h.0 h.1 k.0 k.1 in
    bytes-bind 12 0 checks b off x e (length-fixed h.0 h.1) t l
    ∙ check_bind (is_mark (get_or x 0 0)) InvalidByteOrder 0 (λ z. check (is_kind (get_or x 1 0)) InvalidMessageType 0 >> ret (fixed_in x, size_in x)) b e (mark-there h.0 h.1)
    ∙ check_bind (is_kind (get_or x 1 0)) InvalidMessageType 0 (λ z. ret (fixed_in x, size_in x)) b e (kind-there h.0 h.1)
    ∙ ap₂ (λ (u : Fixed) (n : ℕ). got (u, n) e) bk.0 bk.1

pub fixed_rs : Meets fixed_r (λ h. raw (enc_fixed h.0 h.1)) OkHead
fixed_rs = record { sound = fixed-sound; complete = fixed-complete }

-- all before the body's values
pub record Opening (b : List ℕ) (h : Opened) (e : ℕ) : Type 0 where
  pub head : OkFixed h.0.0 × (h.0.1 < 256 ^ 4)
  pub fields : OkTable h.0.0.order h.1.0 12
  pub complete : T (complete h.0.0.kind h.1.0)
  pub parsed : parse (body_signature h.1.0) ≡ types h.1.1
  pub end : e ≡ body_at h.0.0.order h.1.0
  pub first : At b 0 (enc_fixed h.0.0 h.0.1) 12
  pub second : At b 12 (table h.0.0.order h.1.0 12) (12 + length (table h.0.0.order h.1.0 12))
  pub third : At b (12 + length (table h.0.0.order h.1.0 12)) (pad 8 (12 + length (table h.0.0.order h.1.0 12))) e

abbrev after3 : Fixed × ℕ → List Field → R Opened
after3 h fs = accept (parse (body_signature fs)) 0 >>= λ ts. ret (h, (fs, ts))

abbrev after2 : Fixed × ℕ → List Field → R Opened
after2 h fs = check (complete h.0.kind fs) InvalidHeaderFields 0 >> (padding 8 >> after3 h fs)

abbrev after1 : Fixed × ℕ → R Opened
after1 h = table_r h.0.order >>= λ fs. after2 h fs

body-place : (o : Order) (fs : List Field) → 12 + length (table o fs 12) + length (pad 8 (12 + length (table o fs 12))) ≡ body_at o fs
unfolding body_at
body-place o fs = ap (λ (n : ℕ). 12 + length (table o fs 12) + n) (length-pad 8 (12 + length (table o fs 12)))

pub open-sound : (b : List ℕ) → Bytes b → (h : Opened) (e : ℕ) → open_r b 0 ≡ got h e → Opening b h e
unfolding open_r
open-sound b y h e q =
    let i = bind_inv fixed_r after1 b 0 h e q in
    let fx : Fixed × ℕ = i.0 in
    let o : Order = fx.0.order in
    let z0 : 0 ≤ length b = omega arith in
    let f = fixed_rs.sound b y 0 fx i.1 z0 i.2 in
    let m12 : i.1 ≡ 12 = f.1.end ∙ ap (λ (n : ℕ). 0 + n) (length-fixed fx.0 fx.1) in
    let lf : 12 ≤ length b = subst (λ (n : ℕ). n ≤ length b) m12 (fixed_r-local.bound b 0 fx i.1 z0 i.2).1 in
    let q1 : after1 fx b 12 ≡ got h e = subst (λ (n : ℕ). after1 fx b n ≡ got h e) m12 i.3 in
    open-table b y h e fx q1 f.0 (subst (λ (n : ℕ). At b 0 (enc_fixed fx.0 fx.1) n) m12 f.1) lf
  where
    open-table : (b : List ℕ) → Bytes b → (h : Opened) (e : ℕ) (fx : Fixed × ℕ) → after1 fx b 12 ≡ got h e → OkFixed fx.0 × (fx.1 < 256 ^ 4) → At b 0 (enc_fixed fx.0 fx.1) 12 → 12 ≤ length b → Opening b h e
    open-table b y h e fx q k a l =
        let o : Order = fx.0.order in
        let i = bind_inv (table_r o) (after2 fx) b 12 h e q in
        let fs : List Field = i.0 in
        let t = (table_rs o).sound b y 12 fs i.1 l i.2 in
        let c = check-bind-inv (complete fx.0.kind fs) InvalidHeaderFields 0 (λ z. padding 8 >> after3 fx fs) b i.1 h e i.3 in
        let p = bind_inv (padding 8) (λ z. after3 fx fs) b i.1 h e c.1 in
        let j = bind_inv (accept (parse (body_signature fs)) 0) (λ ts. ret (fx, (fs, ts))) b p.1 h e p.3 in
        let w = ret_inv (fx, (fs, j.0)) b j.1 h e j.3 in
        let v = accept-inv (parse (body_signature fs)) 0 b p.1 j.0 j.1 j.2 in
        let en : p.1 ≡ e = v.1 ∙ w.1 in
        let mid : i.1 ≡ 12 + length (table o fs 12) = t.1.end in
        let pa : At b (12 + length (table o fs 12)) (pad 8 (12 + length (table o fs 12))) e
        = subst (λ (n : ℕ). At b n (pad 8 n) e) mid (subst (λ (n : ℕ). At b i.1 (pad 8 i.1) n) en (padding-sound 8 b i.1 p.0 p.1 p.2)) in
        let res : Opening b (fx, (fs, j.0)) e = record {
          head = k;
          fields = t.0;
          complete = c.0;
          parsed = v.0;
          end = pa.end ∙ body-place o fs;
          first = a;
          second = subst (λ (n : ℕ). At b 12 (table o fs 12) n) mid t.1;
          third = pa;
        } in
        subst (λ (u : Opened). Opening b u e) w.0 res

pub open-complete : (b : List ℕ) (h : Opened) (e : ℕ) → Opening b h e → e ≤ length b → open_r b 0 ≡ got h e
unfolding open_r ret
open-complete b h e k l =
    let fx : Fixed × ℕ = h.0 in
    let o : Order = fx.0.order in
    let fs : List Field = h.1.0 in
    let mid : ℕ = 12 + length (table o fs 12) in
    let l2 : mid ≤ length b = omega (arith, k.third.end) in
    bind-got fixed_r after1 b 0 fx 12 (fixed_rs.complete b 0 fx 12 k.head k.first (omega arith))
    ∙ bind-got (table_r o) (after2 fx) b 12 fs mid ((table_rs o).complete b 12 fs mid k.fields k.second l2)
    ∙ check_bind (complete fx.0.kind fs) InvalidHeaderFields 0 (λ z. padding 8 >> after3 fx fs) b mid k.complete
    ∙ bind-got (padding 8) (λ z. after3 fx fs) b mid tt e (padding-complete 8 b mid e k.third l)
    ∙ bind-got (accept (parse (body_signature fs)) 0) (λ ts. ret (fx, (fs, ts))) b e h.1.1 e (ap (λ (z : Parsed). accept z 0 b e) k.parsed ∙ accept-got h.1.1 0 b e)

-- whole messages
abbrev rest_m : Opened → R Message
rest_m h = inside h.0.1 (body_r h.0.0.order h.1.1) >>= λ vs. ret (message_of h vs)

whole-sound : (b : List ℕ) → Bytes b → (h : Opened) (m e : ℕ) (vs : Values h.1.1) → Opening b h m → inside h.0.1 (body_r h.0.0.order h.1.1) b m ≡ got vs e
    → Proper (message_of h vs) × At b 0 (encode_message (message_of h vs)) e
unfolding encode_message frame OkLength
whole-sound b y h m e vs k q =
    let fx : Fixed × ℕ = h.0 in
    let o : Order = fx.0.order in
    let fs : List Field = h.1.0 in
    let ts : List Ty = h.1.1 in
    let at : ℕ = body_at o fs in
    let bs = body-sound o ts b y at fx.1 vs e (subst (λ (n : ℕ). inside fx.1 (body_r o ts) b n ≡ got vs e) k.end q) in
    let p = parse-sound (body_signature fs) ts k.parsed in
    let sz : fx.1 ≡ length (encode_all o ts vs at) = sym bs.2 in
    let a1 : At b 0 (enc_fixed fx.0 (length (encode_all o ts vs at))) 12 = subst (λ (n : ℕ). At b 0 (enc_fixed fx.0 n) 12) sz k.first in
    let mid : ℕ = 12 + length (table o fs 12) in
    let a3 : At b mid (pad 8 mid) at = subst (λ (n : ℕ). At b mid (pad 8 mid) n) k.end k.third in (
      record {
        fixed = k.head.0;
        fields = k.fields.0;
        table_size = k.fields.1;
        complete = k.complete;
        legal = p.0;
        spelled = p.1;
        short = subst (λ (z : List ℕ). length z ≤ 255) p.1 p.2;
        body = bs.0;
        size = subst (λ (n : ℕ). n < 256 ^ 4) sz k.head.1;
      },
      at-then b 0 (raw (enc_fixed fx.0 (length (encode_all o ts vs at)))) (table o fs ▹ pad 8 ▹ raw (encode_all o ts vs at)) 12 e a1
          (at-then b 12 (table o fs) (pad 8 ▹ raw (encode_all o ts vs at)) mid e k.second
          (at-then b mid (pad 8) (raw (encode_all o ts vs at)) at e a3 bs.1)),
    )

pub message-sound : (b : List ℕ) → Bytes b → (m : Message) (e : ℕ) → read_message b 0 ≡ got m e → Proper m × At b 0 (encode_message m) e
unfolding read_message
message-sound b y m e q =
    let i = bind_inv (at_zero open_r) rest_m b 0 m e q in
    let op = open-sound b y i.0 i.1 (at_zero-inv open_r b 0 i.0 i.1 i.2) in
    let j = bind_inv (inside i.0.0.1 (body_r i.0.0.0.order i.0.1.1)) (λ vs. ret (message_of i.0 vs)) b i.1 m e i.3 in
    let w = ret_inv (message_of i.0 j.0) b j.1 m e j.3 in
    let r = whole-sound b y i.0 i.1 j.1 j.0 op j.2 in
    subst (λ (n : ℕ). Proper m × At b 0 (encode_message m) n) w.1 (subst (λ (u : Message). Proper u × At b 0 (encode_message u) j.1) w.0 r)

-- where the parts of a message stand
abbrev pub opened_of : Message → Opened
opened_of m = ((m.fixed, length (body_of m)), (m.fields, m.types))

abbrev pub place_of : Message → ℕ
place_of m = body_at m.fixed.order m.fields

pub message-opens : (b : List ℕ) (m : Message) (e : ℕ) → Proper m → At b 0 (encode_message m) e → Opening b (opened_of m) (place_of m) × At b (place_of m) (body_of m) e
unfolding encode_message frame
message-opens b m e k t =
    let fx : Fixed = m.fixed in
    let o : Order = fx.order in
    let fs : List Field = m.fields in
    let n : ℕ = length (body_of m) in
    let mid : ℕ = 12 + length (table o fs 12) in
    let s1 = then_at b 0 (raw (enc_fixed fx n)) (table o fs ▹ pad 8 ▹ raw (body_of m)) e t in
    let z1 : 0 + length (enc_fixed fx n) ≡ 12 = ap (λ (j : ℕ). 0 + j) (length-fixed fx n) in
    let u1 : At b 12 ((table o fs ▹ pad 8 ▹ raw (body_of m)) 12) e = subst (λ (j : ℕ). At b j ((table o fs ▹ pad 8 ▹ raw (body_of m)) j) e) z1 s1.1 in
    let s2 = then_at b 12 (table o fs) (pad 8 ▹ raw (body_of m)) e u1 in
    let s3 = then_at b mid (pad 8) (raw (body_of m)) e s2.1 in
    let z3 : mid + length (pad 8 mid) ≡ place_of m = body-place o fs in (
      record {
        head = (k.fixed, k.size);
        fields = (k.fields, k.table_size);
        complete = k.complete;
        parsed = ap parse k.spelled ∙ parse-complete m.types k.legal k.short;
        end = refl;
        first = subst (λ (j : ℕ). At b 0 (enc_fixed fx n) j) z1 s1.0;
        second = s2.0;
        third = subst (λ (j : ℕ). At b mid (pad 8 mid) j) z3 s3.0;
      },
      subst (λ (j : ℕ). At b j (body_of m) e) z3 s3.1,
    )

pub message-complete : (b : List ℕ) (m : Message) (e : ℕ) → Proper m → At b 0 (encode_message m) e → e ≤ length b → read_message b 0 ≡ got m e
unfolding read_message ret
message-complete b m e k t l =
    let p = message-opens b m e k t in
    let h : Opened = opened_of m in
    let at : ℕ = place_of m in
    bind-got (at_zero open_r) rest_m b 0 h at (at_zero-got open_r b 0 h at (open-complete b h at p.0 (mid_le b _ _ e p.1 l)))
    ∙ bind-got (inside (length (body_of m)) (body_r m.fixed.order m.types)) (λ vs. ret (message_of h vs)) b at m.body e
    (body-complete m.fixed.order m.types b at m.body e k.body p.1 l)

-- a message's length stands in its first 16 bytes
pub message-size : (b : List ℕ) (m : Message) (e : ℕ) → Proper m → At b 0 (encode_message m) e → e ≡ message_size b
unfolding message_size table_in table body_at
message-size b m e k t =
    let p = message-opens b m e k t in
    let o : Order = m.fixed.order in
    let n : ℕ = length (each (enc_field o) m.fields 16) in
    let head : List ℕ = enc_fixed m.fixed (length (body_of m)) in
    let t12 : take 12 b ≡ head = subst (λ (j : ℕ). take j b ≡ head) (length-fixed m.fixed (length (body_of m))) (at_read b 0 head 12 p.0.first) in
    let fb = fixed_back m.fixed (length (body_of m)) k.fixed k.size in
    let sz : size_in (take 12 b) ≡ length (body_of m) = ap size_in t12 ∙ fb.1 in
    let od : (fixed_in (take 12 b)).order ≡ o = ap (λ (x : List ℕ). (fixed_in x).order) t12 ∙ ap (λ (x : Fixed). x.order) fb.0 in
    let st = (at_split b 12 (store o 4 n) (each (enc_field o) m.fields 16) _ p.0.second).0 in
    let t4 : take 4 (drop 12 b) ≡ store o 4 n = subst (λ (j : ℕ). take j (drop 12 b) ≡ store o 4 n) (length-store o 4 n) (at_read b 12 (store o 4 n) _ st) in
    let tn : load (fixed_in (take 12 b)).order (take 4 (drop 12 b)) ≡ n = ap₂ (λ (x : Order) (y : List ℕ). load x y) od t4 ∙ load_store o 4 n (length-lt n k.table_size) in
    let tl : length (table o m.fields 12) ≡ 4 + n = length-append (store o 4 n) (each (enc_field o) m.fields 16) ∙ ap (λ (j : ℕ). j + n) (length-store o 4 n) in
    let en : e ≡ place_of m + length (body_of m) = p.1.end in
    let pl : 12 + length (table o m.fields 12) ≡ 16 + n = omega arith in
    let qq : place_of m ≡ 16 + n + gap 8 (16 + n) = ap (λ (j : ℕ). j + gap 8 j) pl in
    en ∙ ap₂ (λ (x y : ℕ). x + y) qq (sym sz) ∙ ap (λ (j : ℕ). 16 + j + gap 8 (16 + j) + size_in (take 12 b)) (sym tn)
