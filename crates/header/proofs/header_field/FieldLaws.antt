-- A header field by the ways through the code: padding, code, signature, what the code asks for, and the value.
use Prim.Native.Nat.{ℕ, ◌+◌, ◌-◌, ◌≤◌, ◌<◌}
use native.Mathlib.Omega.{arith}
use mathlib.Core.Bool.{false}
use mathlib.Core.List.{List}
use mathlib.Core.Path.{◌≡◌, refl, ap, sym, subst, ◌∙◌}
use lib.ListN.{length, take, drop, get_or}
use lib.Seq.{get_or-take, get_or-drop}
use lib.Dec.{eqb, T, eqb_refl}
use borrow.Author.Tests.{ne_eqb}
use Rattle.meaning.specs.declared.Order.{Order}
use Rattle.meaning.specs.declared.Refusal.{Refusal}
use Rattle.meaning.specs.declared.Place.{Place}
use Rattle.std.specs.Prelude.{Result, Ok, Err}
use Rattle.meaning.specs.declared.Part.{Part}
use Rattle.header.specs.declared.header_field.FieldEntry.{FieldEntry}
use Rattle.meaning.specs.declared.Fault.TheVariants.{NotEnoughBytes, WrongSignature, InvalidHeaderField}
use Rattle.meaning.specs.Faults.{refusal}
use Rattle.meaning.specs.Types.{Base, Ty, base, arr, dict, struct, variant, Raw, Var}
use Rattle.meaning.specs.Signature.{code, parse, spell}
use Rattle.meaning.specs.Places.{TypeAt, Typed}
use Rattle.meaning.specs.Message.{Wants, nothing, exactly, anything, wants, Field}
use Rattle.meaning.specs.Reader.{Res, got, fault, R, ret, fail, ◌>>=◌, check, bytes, reached_of}
use Rattle.meaning.specs.ReadValue.{padding, read_sig, base_r, and_r, read, read_var}
use Rattle.meaning.specs.ReadMessage.{byte_r, one_type, code_of, ask, type_r, field_r}
use Rattle.meaning.proofs.Local.{bind-got, bind-fault, bind_inv, bytes-yes, bytes-no, refuse-alike}
use Rattle.meaning.proofs.Meets.{check-yes}
use Rattle.meaning.proofs.Loop.{at-inv, refused-inv}
use Rattle.meaning.proofs.PlaceLaws.{lies, spelled-last, is-base-of}
use Rattle.validate_raw.specs.declared.walk.Spot.{Spot}
use Rattle.validate_raw.specs.Walk.{walked_of}
use Rattle.validate_raw.proofs.walk.WalkLaws.{past-inv, stopped-inv}
use Rattle.header.specs.HeaderField.{one_type_r, OneIs, Known, passed_by, kept_as, known_to, content_to, field_to}
use Rattle.header.proofs.header_field.CodeLaws.{Kept, by-kept, Asks, asks, known-asks}

-- what the code learns of a field's signature
pub record One (o : Order) (buf : List ℕ) (off f s : ℕ) : Type 0 where
  pub after : off < f
  pub some : f < s
  pub within : s < length buf
  pub ty : Ty
  pub reads : one_type_r o buf off ≡ got ty (s + 1)
  pub stands : TypeAt ty (take (s - f) (drop f buf)) 0 (s - f)

pub one_inside : (o : Order) (buf : List ℕ) (off : ℕ) (q : Result Part Refusal) (part : Part) → q ≡ Ok part → OneIs q o buf off
    → One o buf off part.0.0 (part.0.0 + part.1.0)
unfolding OneIs
one_inside o buf off q part h k =
    let i = rw h at k in
    let z : part.1.0 ≡ part.0.0 + part.1.0 - part.0.0 = omega arith in
    let y : TypeAt i.2.0 (take (part.0.0 + part.1.0 - part.0.0) (drop part.0.0 buf)) 0 (part.0.0 + part.1.0 - part.0.0) =
    subst (λ (m : ℕ). TypeAt i.2.0 (take m (drop part.0.0 buf)) 0 m) z i.2.2 in
    record { after = i.0; some = omega (arith, (lies y).past); within = i.1; ty = i.2.0; reads = i.2.1; stands = y }

pub one-shut : (o : Order) (buf : List ℕ) (off : ℕ) (q : Result Part Refusal) (x : Refusal) → q ≡ Err x → OneIs q o buf off → one_type_r o buf off ≡ fault x
unfolding OneIs
one-shut o buf off q x h k = rw h at k

-- the first byte after n
at_drop : (n : ℕ) (b : List ℕ) → get_or (drop n b) 0 0 ≡ get_or b n 0
at_drop n b = let z : n + 0 ≡ n = omega arith in get_or-drop n b 0 0 ∙ ap (λ (k : ℕ). get_or b k 0) z

-- the byte of a basic type
first : {d : Base} {s : List ℕ} {p e : ℕ} → TypeAt (base d) s p e → get_or s p 0 ≡ code d
unfolding spell
first a = (spelled-last a.spelled).byte

-- its first byte is the first of the part of the buffer that holds it
module _ (o : Order) (buf : List ℕ) (off f s : ℕ) (h : One o buf off f s) where
  head_byte : get_or (take (s - f) (drop f buf)) 0 0 ≡ get_or buf f 0
  head_byte = get_or-take (s - f) (drop f buf) 0 0 (omega (arith, h.some)) ∙ at_drop f buf

  pub typed : Typed (take (s - f) (drop f buf)) 0
  typed = record { ty = h.ty; next = s - f; stands = h.stands }

  pub right-type : (k : Base) (n : ℕ) → n ≡ code k → get_or buf f 0 ≡ n → h.ty ≡ base k
  right-type k n e q = (is-base-of h.stands k (head_byte ∙ q ∙ e)).0

  pub wrong_type : (k : Base) (n : ℕ) → Kept k → n ≡ code k → (get_or buf f 0 ≡ n → ⊥) → eqb (code_of h.ty) (code k) ≡ false
  wrong_type k n r e q = ne_eqb (code_of h.ty) (code k) (λ z. go h.ty h.stands z)
    where
      some-code : (k : Base) → Kept k → 0 ≡ code k → ⊥
      some-code k r = by-kept (λ k. 0 ≡ code k → ⊥) (λ z. omega arith) (λ z. omega arith) (λ z. omega arith) (λ z. omega arith) k r

      go : (t : Ty) → TypeAt t (take (s - f) (drop f buf)) 0 (s - f) → code_of t ≡ code k → ⊥
      go (base d) a z = q (sym head_byte ∙ first a ∙ z ∙ sym e)
      go (arr t) a z = some-code k r z
      go (dict w d t) a z = some-code k r z
      go (struct fs) a z = some-code k r z
      go variant a z = some-code k r z

-- a known code and its type
pub known-code : (c n : ℕ) → 1 ≤ c → c < 10 → ((k : Base) → wants c ≡ exactly k → n ≡ code k) → Known c n
known-code c n h l f = go (known-asks c h l)
  where
    go : Asks c → Known c n
    go (asks k r e m) = record { of = k; asks = e; is = f k e }

module _ (o : Order) (c : ℕ) (b : List ℕ) (off : ℕ) where
  abbrev content_r : R (Var 16)
  content_r = and_r (type_r o c) (λ t. read o (read_var o 15) t)

  abbrev ask_then : Ty → R Ty
  ask_then t = ask (wants c) t >>= λ z. ret t

  abbrev hold : Ty → R (Var 16)
  hold t = read o (read_var o 15) t >>= λ v. ret (t, v)

  type-then : (t : Ty) (e : ℕ) → one_type_r o b off ≡ got t e → type_r o c b off ≡ ask_then t b e
  unfolding one_type_r type_r
  type-then t e h =
      let i = bind_inv (read_sig o) (λ s. one_type (parse s)) b off t e h in
      bind-got (read_sig o) (λ s. one_type (parse s) >>= ask_then) b off i.0 i.1 i.2 ∙ bind-got (one_type (parse i.0)) ask_then b i.1 t e i.3

  content-none : (x : Refusal) → type_r o c b off ≡ fault x → Err x ≡ content_to c (content_r b off)
  unfolding and_r
  content-none x h = sym (ap (content_to c) (bind-fault (type_r o c) hold b off x h))

  pub content-shut : (x : Refusal) → one_type_r o b off ≡ fault x → Err x ≡ content_to c (content_r b off)
  unfolding one_type_r type_r
  content-shut x h =
      content-none x (refuse-alike (read_sig o) (λ s. one_type (parse s)) (λ s. one_type (parse s) >>= ask_then) b off x h (λ s e l. bind-fault (one_type (parse s)) ask_then b e x l))

  module _ (t : Ty) (e : ℕ) (reads : one_type_r o b off ≡ got t e) where
    pub content-zero : (x : Refusal) → wants c ≡ nothing → x ≡ refusal InvalidHeaderField 0 → Err x ≡ content_to c (content_r b off)
    unfolding ask fail
    content-zero x h k =
        rw k (content-none (refusal InvalidHeaderField 0) (type-then t e reads ∙ bind-fault (ask (wants c) t) (λ z. ret t) b e (refusal InvalidHeaderField 0) (ap (λ (w : Wants). ask w t b e) h)))

    pub content-wrong : (k : Base) (x : Refusal) → wants c ≡ exactly k → eqb (code_of t) (code k) ≡ false → x ≡ refusal WrongSignature 0 → Err x ≡ content_to c (content_r b off)
    unfolding ask check
    content-wrong k x h z l =
        rw l (content-none (refusal WrongSignature 0) (type-then t e reads ∙ bind-fault (ask (wants c) t) (λ z. ret t) b e (refusal WrongSignature 0) (ap (λ (w : Wants). ask w t b e) h ∙ rw (z, check))))

    goes_on : ask (wants c) t b e ≡ got tt e → content_r b off ≡ hold t b e
    unfolding and_r ret
    goes_on h = bind-got (type_r o c) hold b off t e (type-then t e reads ∙ bind-got (ask (wants c) t) (λ z. ret t) b e tt e h)

    pub content-known : (k : Base) (r : Result FieldEntry Refusal) → wants c ≡ exactly k → t ≡ base k → r ≡ known_to c k (base_r o k b e) → r ≡ content_to c (content_r b off)
    unfolding ask ret read
    content-known k r h z l =
        let y : T (eqb (code_of t) (code k)) = rw z (same (code k)) in
        let g = goes_on (ap (λ (w : Wants). ask w t b e) h ∙ check-yes (eqb (code_of t) (code k)) WrongSignature 0 b e y) in
        l ∙ go (base_r o k b e) refl ∙ sym (ap (content_to c) (g ∙ ap (λ (u : Ty). hold u b e) z))
      where
        same : (n : ℕ) → T (eqb n n)
        same n = eqb_refl n

        go : (y : Res (Raw k)) → base_r o k b e ≡ y → known_to c k (base_r o k b e) ≡ content_to c (hold (base k) b e)
        go (got v m) q =
            ap (known_to c k) q ∙ sym (ap (content_to c) (bind-got (base_r o k) (λ v. ret (base k, v)) b e v m q) ∙ ap (λ (w : Wants). kept_as w c m (base k, v)) h)
        go (fault x) q = ap (known_to c k) q ∙ sym (ap (content_to c) (bind-fault (base_r o k) (λ v. ret (base k, v)) b e x q))

    module _ (any : wants c ≡ anything) (q : Result Spot Refusal) (n : ℕ) (walks : q ≡ walked_of n (read o (read_var o 15) t b e)) where
      held : content_r b off ≡ hold t b e
      unfolding ask ret
      held = goes_on (ap (λ (w : Wants). ask w t b e) any)

      pub content-past : (p : Spot) → q ≡ Ok p → passed_by p.buf.0 ≡ content_to c (content_r b off)
      unfolding ret
      content-past p h =
          let i = past-inv n p (read o (read_var o 15) t b e) (sym walks ∙ h) in
          sym (ap (content_to c) (held ∙ bind-got (read o (read_var o 15) t) (λ v. ret (t, v)) b e i.0 p.buf.0 i.1)
          ∙ ap (λ (w : Wants). kept_as w c p.buf.0 (t, i.0)) any)

      pub content-stop : (x : Refusal) → q ≡ Err x → Err x ≡ content_to c (content_r b off)
      content-stop x h =
          sym (ap (content_to c) (held ∙ bind-fault (read o (read_var o 15) t) (λ v. ret (t, v)) b e x (stopped-inv n x (read o (read_var o 15) t b e) (sym walks ∙ h))))

-- the alignment of a field is what the code read from the table
module _ (o : Order) (b : List ℕ) (off to : ℕ) (eight : to ≡ 8) where
  abbrev parts : R Field
  parts = and_r byte_r (λ c. and_r (type_r o c) (λ t. read o (read_var o 15) t))

  abbrev pair_up : ℕ → R Field
  pair_up c = and_r (type_r o c) (λ t. read o (read_var o 15) t) >>= λ w. ret (c, w)

  pub field-stop : (x : Refusal) → reached_of (padding to b off) ≡ Err x → Err x ≡ field_to (field_r o b off)
  unfolding field_r
  field-stop x h =
      let k : reached_of (padding 8 b off) ≡ Err x = rw eight at h in
      sym (ap field_to (bind-fault (padding 8) (λ z. parts) b off x (refused-inv (padding 8 b off) x k)))

  module _ (p : Place) (pads : reached_of (padding to b off) ≡ Ok p) where
    padded : field_r o b off ≡ parts b p.0
    unfolding field_r
    padded =
        let k : reached_of (padding 8 b off) ≡ Ok p = rw eight at pads in
        let i = at-inv (padding 8 b off) p k in
        bind-got (padding 8) (λ z. parts) b off i.0 p.0 i.1

    pub field-short : (x : Refusal) → length b ≤ p.0 → x ≡ refusal NotEnoughBytes 0 → Err x ≡ field_to (field_r o b off)
    unfolding and_r byte_r
    field-short x l e =
        let s : byte_r b p.0 ≡ fault (refusal NotEnoughBytes 0) = bind-fault (bytes 1 0) (λ x. ret (get_or x 0 0)) b p.0 (refusal NotEnoughBytes 0) (bytes-no 1 0 b p.0 (omega arith)) in
        rw e (sym (ap field_to (padded ∙ bind-fault byte_r pair_up b p.0 (refusal NotEnoughBytes 0) s)))

    pub field-read : (c : ℕ) (r : Result FieldEntry Refusal) → p.0 < length b → c ≡ get_or b p.0 0 → r ≡ content_to c (and_r (type_r o c) (λ t. read o (read_var o 15) t) b (p.0 + 1)) → r ≡ field_to (field_r o b off)
    unfolding and_r byte_r ret
    field-read c r l e h =
        let d : get_or (take 1 (drop p.0 b)) 0 0 ≡ c = get_or-take 1 (drop p.0 b) 0 0 (omega arith) ∙ at_drop p.0 b ∙ sym e in
        let s : byte_r b p.0 ≡ got c (p.0 + 1) =
        bind-got (bytes 1 0) (λ x. ret (get_or x 0 0)) b p.0 (take 1 (drop p.0 b)) (p.0 + 1) (bytes-yes 1 0 b p.0 (omega arith)) ∙ ap (λ (n : ℕ). got n (p.0 + 1)) d in
        h ∙ go (and_r (type_r o c) (λ t. read o (read_var o 15) t) b (p.0 + 1)) refl ∙ sym (ap field_to (padded ∙ bind-got byte_r pair_up b p.0 c (p.0 + 1) s))
      where
        go : (y : Res (Var 16)) → and_r (type_r o c) (λ t. read o (read_var o 15) t) b (p.0 + 1) ≡ y
            → content_to c (and_r (type_r o c) (λ t. read o (read_var o 15) t) b (p.0 + 1)) ≡ field_to (pair_up c b (p.0 + 1))
        go (got w m) q = ap (content_to c) q ∙ sym (ap field_to (bind-got (and_r (type_r o c) (λ t. read o (read_var o 15) t)) (λ w. ret (c, w)) b (p.0 + 1) w m q))
        go (fault x) q = ap (content_to c) q ∙ sym (ap field_to (bind-fault (and_r (type_r o c) (λ t. read o (read_var o 15) t)) (λ w. ret (c, w)) b (p.0 + 1) x q))
