-- A signature among the bytes: what stands there once it is read, for a value of type g and for a variant alike.
use Prim.Native.Nat.{ℕ, ◌+◌, ◌-◌, ◌≤◌, ◌<◌}
use native.Mathlib.Omega.{arith}
use mathlib.Core.List.{List, [], ◌∷◌}
use mathlib.Core.Path.{◌≡◌, refl, ap, sym, subst, ◌∙◌}
use lib.ListN.{length, take, drop}
use lib.Seq.{length-take-le}
use Rattle.meaning.specs.declared.Order.{Order}
use Rattle.meaning.specs.declared.Refusal.{Refusal}
use Rattle.meaning.specs.declared.Fault.{Fault}
use Rattle.meaning.specs.declared.Fault.TheVariants.{EmptySignature, WrongSignature}
use Rattle.meaning.specs.declared.Place.{Place}
use Rattle.meaning.specs.declared.Length.{Length}
use Rattle.std.specs.Prelude.{Result, Ok, Err, IsErr, IsErrAnd}
use Rattle.meaning.proofs.Passing.{handed-on}
use Rattle.meaning.specs.declared.Part.{Part}
use Rattle.meaning.specs.Faults.{refusal, moved}
use Rattle.meaning.specs.Places.{TypeAt}
use Rattle.meaning.proofs.PlaceLaws.{whole-type}
use Rattle.meaning.proofs.Loop.{at-inv, refused-inv}
use Rattle.basic.specs.declared.spelled.Misspelt.{Misspelt}
use Rattle.basic.specs.declared.spelled.Misspelt.TheVariants.{Text, Grammar}
use Rattle.meaning.specs.Types.{Ty}
use Rattle.meaning.specs.Signature.{parse, Parsed, types, refused}
use Rattle.meaning.specs.Reader.{Res, got, fault, R, ret, here, fail, ◌>>=◌, reached_of}
use Rattle.meaning.specs.ReadValue.{any, read_sig, accept, read_g, single, counted_of}
use Rattle.meaning.proofs.Local.{bind-got, bind-fault, bind_inv, refuse-alike}
use Rattle.meaning.proofs.Meets.{here-bind}
use Rattle.meaning.proofs.BaseMeets.{accept-inv, accept-got}
use Rattle.meaning.proofs.ValueLocal.{read_sig-local}
use Rattle.text.proofs.strings.Strings.{text-part}
use Rattle.basic.specs.Spelled.{spelled_r, spelt_by, spelt_of, refusal_in, variant_type_r, inner_of}

module _ (o : Order) (b : List ℕ) (off : ℕ) where
  -- a signature that spells types
  pub spelled-inv : (ts : List Ty) (e : ℕ) → spelled_r o b off ≡ got ts e → (s : List ℕ) × (read_sig o b off ≡ got s e) × (parse s ≡ types ts)
  unfolding spelled_r
  spelled-inv ts e h =
      let i = bind_inv (read_sig o) (λ s. accept (parse s) off) b off ts e (sym (here-bind (λ p. read_sig o >>= λ s. accept (parse s) p) b off) ∙ h) in
      let j = accept-inv (parse i.0) off b i.1 ts e i.3 in
      (i.0, i.2 ∙ ap (λ (k : ℕ). got i.0 k) j.1, j.0)

  module _ {B : Type 0} (k : ℕ → List ℕ → List Ty → R B) where
    abbrev pub spell_then : R B
    spell_then = here >>= λ p. read_sig o >>= λ s. accept (parse s) p >>= λ ts. k p s ts

    pub spelled-then : (ts : List Ty) (e : ℕ) (h : spelled_r o b off ≡ got ts e) → spell_then b off ≡ k off (spelled-inv ts e h).0 ts b e
    spelled-then ts e h =
        let i = spelled-inv ts e h in
        here-bind (λ p. read_sig o >>= λ s. accept (parse s) p >>= λ ts. k p s ts) b off
        ∙ bind-got (read_sig o) (λ s. accept (parse s) off >>= λ ts. k off s ts) b off i.0 e i.1
        ∙ bind-got (accept (parse i.0) off) (λ ts. k off i.0 ts) b e ts e (rw i.2 (accept-got ts off b e))

    pub spelled-fault : (x : Refusal) → spelled_r o b off ≡ fault x → spell_then b off ≡ fault x
    unfolding spelled_r
    spelled-fault x h =
        here-bind (λ p. read_sig o >>= λ s. accept (parse s) p >>= λ ts. k p s ts) b off
        ∙ refuse-alike (read_sig o) (λ s. accept (parse s) off) (λ s. accept (parse s) off >>= λ ts. k off s ts) b off x (sym (here-bind (λ p. read_sig o >>= λ s. accept (parse s) p) b off) ∙ h)
        (λ s e l. bind-fault (accept (parse s) off) (λ ts. k off s ts) b e x l)

  -- a value of type g is a signature that spells types
  pub g-reached : reached_of (read_g o b off) ≡ reached_of (spelled_r o b off)
  unfolding read_g ret
  g-reached = go (spelled_r o b off) refl
    where
      go : (x : Res (List Ty)) → spelled_r o b off ≡ x → reached_of (read_g o b off) ≡ reached_of (spelled_r o b off)
      go (got ts e) h = ap reached_of (spelled-then (λ p s ts. ret s) ts e h) ∙ sym (ap reached_of h)
      go (fault x) h = ap reached_of (spelled-fault (λ p s ts. ret s) x h) ∙ sym (ap reached_of h)

pub counted-types : (q : Parsed) (n : ℕ) → Ok n ≡ counted_of q → (ts : List Ty) × (q ≡ types ts) × (n ≡ length ts)
counted-types (types ts) n h = (ts, refl, cc)
counted-types (refused k) n h = absurd (let z : ◌≡◌ {A = ℕ} 0 1 = cc in omega arith)

pub counted-refused : (q : Parsed) (x : Refusal) → Err x ≡ counted_of q → (k : Fault) × (q ≡ refused k) × (x ≡ refusal k 0)
counted-refused (types ts) x h = absurd (let z : ◌≡◌ {A = ℕ} 0 1 = cc in omega arith)
counted-refused (refused k) x h = (k, refl, cc)

-- what the text that was read says of the buffer
module _ (o : Order) (buf : List ℕ) (off : ℕ) (w : off ≤ length buf) (s : List ℕ) (e : ℕ) (h : read_sig o buf off ≡ got s e) where
  stands : (e ≡ off + 1 + (length s + 1)) × (s ≡ take (length s) (drop (off + 1) buf))
  unfolding read_sig
  stands = text-part o 1 any buf off s e h

  text-within : (off + 2 ≤ e) × (e ≤ length buf)
  text-within =
      let r = (read_sig-local o).bound buf off s e w h in
      (omega (arith, stands.0), omega arith)

  abbrev cut : List ℕ
  cut = take (e - 1 - (off + 1)) (drop (off + 1) buf)

  same_text : cut ≡ s
  same_text =
      let n : e - 1 - (off + 1) ≡ length s = omega (arith, stands.0) in
      ap (λ (k : ℕ). take k (drop (off + 1) buf)) n
      ∙ sym stands.1

  -- the one type that it spells stands between the length byte and the zero
  pub type-stands : (t : Ty) → parse s ≡ types (t ∷ []) → TypeAt t cut 0 (e - 1 - (off + 1))
  type-stands t k =
      let n : length s ≡ e - 1 - (off + 1) = omega (arith, stands.0) in
      subst (λ (x : List ℕ). TypeAt t x 0 (e - 1 - (off + 1))) (sym same_text) (subst (λ (m : ℕ). TypeAt t s 0 m) n (whole-type k))

-- the code's ways to `spelt_of`: the text, and then what the grammar says of the part of the buffer that holds it
module _ (o : Order) (buf : List ℕ) (off : ℕ) (w : off ≤ length buf) where
  pub spelt-stop : (x : Refusal) → reached_of (read_sig o buf off) ≡ Err x → Err (Text x) ≡ spelt_of off (read_sig o buf off)
  spelt-stop x h = sym (ap (spelt_of off) (refused-inv (read_sig o buf off) x h))

  module _ (p : Place) (h : reached_of (read_sig o buf off) ≡ Ok p) where
    text : (s : List ℕ) × (read_sig o buf off ≡ got s p.0)
    text = at-inv (read_sig o buf off) p h

    pub reached-within : (off + 2 ≤ p.0) × (p.0 ≤ length buf)
    reached-within = text-within o buf off w text.0 p.0 text.1

    judged : (q : Parsed) → parse (cut o buf off w text.0 p.0 text.1) ≡ q → spelt_of off (read_sig o buf off) ≡ spelt_by q off p.0
    judged q k =
        ap (spelt_of off) text.1
        ∙ ap (λ (y : Parsed). spelt_by y off p.0) (ap parse (sym (same_text o buf off w text.0 p.0 text.1)) ∙ k)

    pub spelt-types : (n : ℕ) → Ok n ≡ counted_of (parse (take (p.0 - 1 - (off + 1)) (drop (off + 1) buf)))
        → Ok (n, record { 0 = p.0 }) ≡ spelt_of off (read_sig o buf off)
    spelt-types n k = let i = counted-types _ n k in rw i.2 (sym (judged (types i.0) i.1))

    pub spelt-refused : (x y : Refusal) → Err x ≡ counted_of (parse (take (p.0 - 1 - (off + 1)) (drop (off + 1) buf))) → y ≡ moved off x
        → Err (Grammar y) ≡ spelt_of off (read_sig o buf off)
    spelt-refused x y k e = let i = counted-refused _ x k in rw (e, i.2) (sym (judged (refused i.0) i.1))

-- what an answer says of the text and of the grammar
module _ (o : Order) (b : List ℕ) (off : ℕ) where
  pub record SaysTypes (n e : ℕ) : Type 0 where
    pub text : List ℕ
    pub list : List Ty
    pub reads : read_sig o b off ≡ got text e
    pub parses : parse text ≡ types list
    pub counts : n ≡ length list

  pub record SaysNot (x : Refusal) : Type 0 where
    pub text : List ℕ
    pub past : ℕ
    pub why : Fault
    pub reads : read_sig o b off ≡ got text past
    pub parses : parse text ≡ refused why
    pub told : x ≡ refusal why off

  abbrev pub Says : Result (ℕ × Place) Misspelt → Type 0
  Says (Ok (n, e)) = SaysTypes n e.0
  Says (Err (Grammar x)) = SaysNot x
  Says (Err (Text x)) = read_sig o b off ≡ fault x

  pub spelt-says : (q : Result (ℕ × Place) Misspelt) → q ≡ spelt_of off (read_sig o b off) → Says q
  spelt-says q h = subst (λ (z : Result (ℕ × Place) Misspelt). Says z) (sym h) (go (read_sig o b off) refl)
    where
      by : (s : List ℕ) (e : ℕ) → read_sig o b off ≡ got s e → (p : Parsed) → parse s ≡ p → Says (spelt_by p off e)
      by s e r (types ts) k = record { text = s; list = ts; reads = r; parses = k; counts = refl }
      by s e r (refused f) k = record { text = s; past = e; why = f; reads = r; parses = k; told = refl }

      go : (x : Res (List ℕ)) → read_sig o b off ≡ x → Says (spelt_of off x)
      go (got s e) r = by s e r (parse s) refl
      go (fault x) r = r

  spelled_by : (s : List ℕ) (e : ℕ) (q : Parsed) → read_sig o b off ≡ got s e → parse s ≡ q → spelled_r o b off ≡ accept q off b e
  unfolding spelled_r
  spelled_by s e q r k =
      here-bind (λ p. read_sig o >>= λ s. accept (parse s) p) b off
      ∙ bind-got (read_sig o) (λ s. accept (parse s) off) b off s e r ∙ ap (λ (y : Parsed). accept y off b e) k

  -- both refusals are those of the reader of types
  abbrev pub spelled_to : Result (ℕ × Place) Misspelt → Result Place Refusal
  spelled_to (Ok (n, e)) = Ok e
  spelled_to (Err (Grammar x)) = Err x
  spelled_to (Err (Text x)) = Err x

  pub spelt-reached : (q : Result (ℕ × Place) Misspelt) → q ≡ spelt_of off (read_sig o b off) → spelled_to q ≡ reached_of (spelled_r o b off)
  unfolding spelled_r accept fail ret
  spelt-reached q h = go q (spelt-says q h)
    where
      go : (q : Result (ℕ × Place) Misspelt) → Says q → spelled_to q ≡ reached_of (spelled_r o b off)
      go (Ok (n, e)) i = sym (ap reached_of (spelled_by i.text e.0 (types i.list) i.reads i.parses))
      go (Err (Grammar x)) i = rw i.told (sym (ap reached_of (spelled_by i.text i.past (refused i.why) i.reads i.parses)))
      go (Err (Text x)) r =
          sym (ap reached_of (here-bind (λ p. read_sig o >>= λ s. accept (parse s) p) b off ∙ bind-fault (read_sig o) (λ s. accept (parse s) off) b off x r))

  -- a refusal that `?` makes of either, and that it is the reader's
  pub misspelt : {A : Type 0} (r : Result A Refusal) (m : Misspelt) → Err m ≡ spelt_of off (read_sig o b off)
      → IsErr r × IsErrAnd r (λ y. y ≡ refusal_in m) → (x : Refusal) × (r ≡ Err x) × (Err x ≡ reached_of (spelled_r o b off))
  misspelt r (Text x) h e = (x, handed-on r x e, spelt-reached (Err (Text x)) h)
  misspelt r (Grammar x) h e = (x, handed-on r x e, spelt-reached (Err (Grammar x)) h)

-- what a count of types says of a variant
module _ (o : Order) (buf : List ℕ) (off : ℕ) (w : off ≤ length buf) where
  variant-type : (ts : List Ty) (e : ℕ) → spelled_r o buf off ≡ got ts e → variant_type_r o buf off ≡ single ts off buf e
  unfolding variant_type_r
  variant-type ts e h = here-bind (λ p. spelled_r o >>= λ ts. single ts p) buf off ∙ bind-got (spelled_r o) (λ ts. single ts off) buf off ts e h

  spelt-inv : (n : ℕ) (e : Place) → Ok (n, e) ≡ spelt_of off (read_sig o buf off)
      → (ts : List Ty) × (spelled_r o buf off ≡ got ts e.0) × (n ≡ length ts)
  spelt-inv n e h =
      let i = spelt-says o buf off (Ok (n, e)) h in
      let r = spelled_by o buf off i.text e.0 (types i.list) i.reads i.parses in
      (i.list, r ∙ accept-got i.list off buf e.0, i.counts)

  -- a type, or none
  pub inner-stop : (x : Refusal) → Err x ≡ reached_of (spelled_r o buf off) → Err x ≡ inner_of off (variant_type_r o buf off)
  unfolding variant_type_r
  inner-stop x h =
      sym (ap (inner_of off) (here-bind (λ p. spelled_r o >>= λ ts. single ts p) buf off
      ∙ bind-fault (spelled_r o) (λ ts. single ts off) buf off x (refused-inv (spelled_r o buf off) x (sym h))))

  pub inner-none : (n : ℕ) (e : Place) (x : Refusal) → n ≡ 0 → Ok (n, e) ≡ spelt_of off (read_sig o buf off) → x ≡ refusal EmptySignature off → Err x ≡ inner_of off (variant_type_r o buf off)
  unfolding single fail
  inner-none n e x z h k = let i = spelt-inv n e h in go i.0 i.1 (omega (arith, i.2))
    where
      go : (ts : List Ty) → spelled_r o buf off ≡ got ts e.0 → length ts ≡ 0 → Err x ≡ inner_of off (variant_type_r o buf off)
      go [] q l = rw k (sym (ap (inner_of off) (variant-type [] e.0 q)))
      go (t ∷ ts) q l = absurd (omega arith)

  pub inner-more : (n : ℕ) (e : Place) (x : Refusal) → (n ≡ 0 → ⊥) → (n ≡ 1 → ⊥) → Ok (n, e) ≡ spelt_of off (read_sig o buf off)
      → x ≡ refusal WrongSignature off → Err x ≡ inner_of off (variant_type_r o buf off)
  unfolding single fail
  inner-more n e x y z h k = let i = spelt-inv n e h in go i.0 i.1 i.2
    where
      go : (ts : List Ty) → spelled_r o buf off ≡ got ts e.0 → n ≡ length ts → Err x ≡ inner_of off (variant_type_r o buf off)
      go [] q l = absurd (y l)
      go (t ∷ []) q l = absurd (z l)
      go (t ∷ u ∷ ts) q l = rw k (sym (ap (inner_of off) (variant-type (t ∷ u ∷ ts) e.0 q)))

  pub inner-one : (n : ℕ) (e : Place) → n ≡ 1 → Ok (n, e) ≡ spelt_of off (read_sig o buf off)
      → Ok (record { 0 = record { 0 = off + 1 }; 1 = record { 0 = e.0 - 1 - (off + 1) } }) ≡ inner_of off (variant_type_r o buf off)
  unfolding single ret
  inner-one n e z h = let i = spelt-inv n e h in go i.0 i.1 (sym i.2 ∙ z)
    where
      go : (ts : List Ty) → spelled_r o buf off ≡ got ts e.0 → length ts ≡ 1 → Ok (record { 0 = record { 0 = off + 1 }; 1 = record { 0 = e.0 - 1 - (off + 1) } }) ≡ inner_of off (variant_type_r o buf off)
      go [] q l = absurd (omega arith)
      go (t ∷ u ∷ ts) q l = absurd (omega arith)
      go (t ∷ []) q l = sym (ap (inner_of off) (variant-type (t ∷ []) e.0 q))

  -- the one type of a variant, and where its signature stands: n bytes from f on, between the length byte and the zero
  pub record VariantAt (f n : ℕ) : Type 0 where
    pub past : off < f
    pub within : f + n < length buf
    pub ty : Ty
    pub reads : variant_type_r o buf off ≡ got ty (f + n + 1)
    pub stands : TypeAt ty (take (f + n - f) (drop f buf)) 0 (f + n - f)

  variant-at : (t : Ty) (e : ℕ) → spelled_r o buf off ≡ got (t ∷ []) e → VariantAt (off + 1) (e - 1 - (off + 1))
  unfolding single ret
  variant-at t e q =
      let i = spelled-inv o buf off (t ∷ []) e q in
      let r = text-within o buf off w i.0 e i.1 in
      let n : off + 1 + (e - 1 - (off + 1)) - (off + 1) ≡ e - 1 - (off + 1) = omega arith in
      let f : off + 1 + (e - 1 - (off + 1)) + 1 ≡ e = omega arith in
      record {
        past = omega arith;
        within = omega arith;
        ty = t;
        reads = variant-type (t ∷ []) e q ∙ ap (λ (k : ℕ). got t k) (sym f);
        stands = subst (λ (k : ℕ). TypeAt t (take k (drop (off + 1) buf)) 0 k) (sym n) (type-stands o buf off w i.0 e i.1 t i.2);
      }

  -- what a caller learns of it
  module _ (q : Result Part Refusal) (h : q ≡ inner_of off (variant_type_r o buf off)) where
    pub inner-at : (p : Part) → q ≡ Ok p → VariantAt p.0.0 p.1.0
    unfolding single ret fail variant_type_r
    inner-at p k = go (spelled_r o buf off) refl
      where
        none : (x : Refusal) → variant_type_r o buf off ≡ fault x → VariantAt p.0.0 p.1.0
        none x z = absurd (let y : Ok p ≡ Err x = sym k ∙ h ∙ ap (inner_of off) z in let u : ◌≡◌ {A = ℕ} 0 1 = cc in omega arith)

        go : (x : Res (List Ty)) → spelled_r o buf off ≡ x → VariantAt p.0.0 p.1.0
        go (fault x) z = none x (here-bind (λ p. spelled_r o >>= λ ts. single ts p) buf off ∙ bind-fault (spelled_r o) (λ ts. single ts off) buf off x z)
        go (got [] e) z = none _ (variant-type [] e z)
        go (got (t ∷ u ∷ ts) e) z = none _ (variant-type (t ∷ u ∷ ts) e z)
        go (got (t ∷ []) e) z =
            let y : Ok p ≡ Ok (record { 0 = record { 0 = off + 1 }; 1 = record { 0 = e - 1 - (off + 1) } }) =
            sym k ∙ h ∙ ap (inner_of off) (variant-type (t ∷ []) e z) in
            let a : p ≡ record { 0 = record { 0 = off + 1 }; 1 = record { 0 = e - 1 - (off + 1) } } = cc in
            subst (λ (x : Part). VariantAt x.0.0 x.1.0) (sym a) (variant-at t e z)

    pub inner-shut : (x : Refusal) → q ≡ Err x → variant_type_r o buf off ≡ fault x
    inner-shut x k = go (variant_type_r o buf off) refl
      where
        go : (y : Res Ty) → variant_type_r o buf off ≡ y → variant_type_r o buf off ≡ fault x
        go (got t e) z = absurd (let y : Err x ≡ Ok (record { 0 = record { 0 = off + 1 }; 1 = record { 0 = e - 1 - (off + 1) } }) = sym k ∙ h ∙ ap (inner_of off) z in let u : ◌≡◌ {A = ℕ} 0 1 = cc in omega arith)
        go (fault y) z = let a : Err x ≡ Err y = sym k ∙ h ∙ ap (inner_of off) z in let u : y ≡ x = cc in z ∙ ap (λ (v : Refusal). fault v) u

-- the place after a signature lies past its length byte and its zero
pub spelt-within : (o : Order) (buf : List ℕ) (off : ℕ) → off ≤ length buf → (n : ℕ) (e : Place)
    → Ok (n, e) ≡ spelt_of off (read_sig o buf off) → (off + 2 ≤ e.0) × (e.0 ≤ length buf)
spelt-within o buf off w n e h = let i = spelt-says o buf off (Ok (n, e)) h in text-within o buf off w i.text e.0 i.reads
