-- The answers of the walk, by the ways through the code: one law for each.
use Prim.Native.Nat.{ℕ, zero, suc, ◌+◌, ◌-◌, ◌*◌, ◌/◌, ◌%◌, ◌≤◌}
use native.Mathlib.Omega.{arith}
use native.Mathlib.Nat.{div-add-mod', div-le_self}
use mathlib.Core.List.{List}
use mathlib.Core.Path.{◌≡◌, refl, ap, sym, subst, ◌∙◌}
use lib.ListN.{length, take}
use lib.Dec.{T}
use lib.Seq.{length-take-le}
use Rattle.meaning.specs.declared.Order.{Order}
use Rattle.meaning.specs.declared.Part.{Part}
use Rattle.meaning.specs.declared.Refusal.{Refusal}
use Rattle.meaning.specs.declared.Place.{Place}
use Rattle.meaning.specs.declared.Length.{Length}
use Rattle.meaning.specs.declared.Fault.TheVariants.{NotEnoughBytes, VariantTooDeep}
use Rattle.std.specs.Prelude.{Result, Ok, Err}
use Rattle.meaning.specs.Faults.{refusal}
use Rattle.meaning.specs.Types.{Fix, Base, fix, Ty, base, variant, Var, size}
use Rattle.meaning.specs.Number.{gap}
use Rattle.meaning.specs.Reader.{Res, got, fault, R, ret, fail, ◌>>=◌, many, reached_of}
use Rattle.meaning.specs.ReadValue as ReadValue
use Rattle.meaning.specs.ReadValue.{valid, single, base_r, array_r, pair_r, read, variant_of, read_var}
use Rattle.meaning.proofs.Local.{bind-got, bind-fault, bind_inv, Ran, ran, stopped, bind_is, fault-inj}
use Rattle.meaning.proofs.Meets.{here-bind, padding-sound, length-pad}
use Rattle.meaning.proofs.ValueMeets.{gap-al}
use Rattle.meaning.proofs.Plain.{plain}
use Rattle.basic.specs.Spelled.{spelled_r, variant_type_r}
use Rattle.validate_raw.specs.Head.{head_r, opened_of}
use Rattle.validate_raw.specs.Walk.{walked_of, walked_to, entry_r, Held, item_r}
use Rattle.validate_raw.specs.declared.walk.Spot.{Spot}
use Rattle.validate_raw.specs.Items.{Item, single as element, pair, item_of, align_item, whole_item}
use Rattle.validate_raw.proofs.first_bytes.ItemLaws.{Holds, elements, entries}
use Rattle.basic.proofs.spelled.SpellLaws.{spelled-then, spelled-fault}
use Rattle.validate_raw.proofs.array_head.ArrayLaws.{head-inv, inside-inv, array-inside, array-shut, elements-whole, elements-ragged}

-- a walk's answer is where its reader gets to
pub walked_to_lem : {A : Type 0} (n : ℕ) (x : Res A) → walked_to n (reached_of x) ≡ walked_of n x
walked_to_lem n (got v e) = refl
walked_to_lem n (fault x) = refl

pub past-inv : {A : Type 0} (n : ℕ) (p : Spot) (x : Res A) → walked_of n x ≡ Ok p → (v : A) × (x ≡ got v p.buf.0) × (n ≡ p.sig.0)
past-inv n p (got v e) h =
    let spot : Spot = record { sig = record { 0 = n }; buf = record { 0 = e } } in
    let z : spot ≡ p = cc in
    (v, ap (λ (q : Spot). got v q.buf.0) z, ap (λ (q : Spot). q.sig.0) z)
past-inv n p (fault x) h = absurd (let z : ◌≡◌ {A = ℕ} 0 1 = cc in omega arith)

pub stopped-inv : {A : Type 0} (n : ℕ) (y : Refusal) (x : Res A) → walked_of n x ≡ Err y → x ≡ fault y
stopped-inv n y (got v e) h = absurd (let z : ◌≡◌ {A = ℕ} 0 1 = cc in omega arith)
stopped-inv {A} n y (fault x) h = let z : x ≡ y = cc in ap (λ (u : Refusal). fault u) z

-- where a reader got to, as the code hands it on
pub goes-past : (n : ℕ) (q : Result Place Refusal) (p : Place) → q ≡ Ok p → Ok (record { sig = record { 0 = n }; buf = p }) ≡ walked_to n q
goes-past n q p h = sym (ap (walked_to n) h)

pub goes-no : (n : ℕ) (q : Result Place Refusal) (x : Refusal) → q ≡ Err x → Err x ≡ walked_to n q
goes-no n q x h = sym (ap (walked_to n) h)

-- what is done with a value once it is read changes no place
pub kept : {A B : Type 0} (r : R A) (g : A → B) (b : List ℕ) (off : ℕ) → reached_of ((r >>= λ v. ret (g v)) b off) ≡ reached_of (r b off)
unfolding ret
kept {A} r g b off = go (r b off) refl
  where
    go : (x : Res A) → r b off ≡ x → reached_of ((r >>= λ v. ret (g v)) b off) ≡ reached_of (r b off)
    go (got v e) q = ap reached_of (bind-got r (λ v. ret (g v)) b off v e q) ∙ sym (ap reached_of q)
    go (fault x) q = ap reached_of (bind-fault r (λ v. ret (g v)) b off x q) ∙ sym (ap reached_of q)

-- two things in turn
pub pair-got : {A B : Type 0} (r : R A) (s : R B) (b : List ℕ) (off : ℕ) (v : A) (p : ℕ) → r b off ≡ got v p → reached_of (pair_r r s b off) ≡ reached_of (s b p)
unfolding pair_r
pair-got r s b off v p q = ap reached_of (bind-got r (λ x. s >>= λ y. ret (x, y)) b off v p q) ∙ kept s (λ y. (v, y)) b p

pub pair-fault : {A B : Type 0} (r : R A) (s : R B) (b : List ℕ) (off : ℕ) (x : Refusal) → r b off ≡ fault x → pair_r r s b off ≡ fault x
unfolding pair_r
pair-fault r s b off x q = bind-fault r (λ x. s >>= λ y. ret (x, y)) b off x q

-- the sizes divide what is a whole number of them
whole-times : (c : Fix) (n : ℕ) → n % size c ≡ 0 → n / size c * size c ≡ n
whole-times c n h = let e = div-add-mod' n (size c) in omega arith

times-le : (c : Fix) (n : ℕ) → n / size c ≤ n
times-le c n = div-le_self n (size c)

module _ (o : Order) {W : Type 0} (read_w : R W) (b : List ℕ) where
  -- basic values and variants stand at one byte of the signature
  pub base_read : (off : ℕ) (t : Ty) (c : Base) (n e : ℕ) (q : Result Place Refusal) → t ≡ base c → e ≡ n → q ≡ reached_of (base_r o c b off) → walked_to n q ≡ walked_of e (read o read_w t b off)
  unfolding read
  base_read off t c n e q h k l = rw (h, k, l) (walked_to_lem n (base_r o c b off))

  pub variant-read : (off : ℕ) (t : Ty) (n e : ℕ) (q : Result Place Refusal) → t ≡ variant → e ≡ n → q ≡ reached_of (read_w b off) → walked_to n q ≡ walked_of e (read o read_w t b off)
  unfolding read
  variant-read off t n e q h k l = rw (h, k, l) (walked_to_lem n (read_w b off))

  -- arrays and dicts, by what they hold
  abbrev items_r : (i : Item) → R (List (Held i W))
  items_r i = array_r o (align_item i) (whole_item i) (item_r o read_w i)

  pub items-read : (off : ℕ) (t u : Ty) (e : ℕ) (r : Result Spot Refusal) → Holds t u → r ≡ walked_of e (items_r (item_of u) b off) → r ≡ walked_of e (read o read_w t b off)
  unfolding read item_r entry_r
  items-read off t u e r (elements h i) g =
      let k : r ≡ walked_of e (items_r (element u) b off) = subst (λ (x : Item). r ≡ walked_of e (items_r x b off)) i g in
      rw h k
  items-read off t u e r (entries f c v h i) g =
      let k : r ≡ walked_of e (items_r (pair c v) b off) = subst (λ (x : Item). r ≡ walked_of e (items_r x b off)) i g in
      rw h k

-- the elements in the n bytes from f on, whose reader is r
module _ {A : Type 0} (o : Order) (a : ℕ) (r : R A) (b : List ℕ) (off : ℕ) where
  pub shut-read : (w e : ℕ) (x : Refusal) → opened_of (length b) (head_r o a b off) ≡ Err x → Err x ≡ walked_of e (array_r o a w r b off)
  unfolding array_r
  shut-read w e x h = sym (ap (walked_of e) (array-shut o a b off (λ n. ReadValue.elements n w r) x h))

  module _ (part : Part) (h : opened_of (length b) (head_r o a b off) ≡ Ok part) where
    inside_is : (w : ℕ) → array_r o a w r b off ≡ ReadValue.elements part.1.0 w r (take (part.0.0 + part.1.0) b) part.0.0
    unfolding array_r
    inside_is w = array-inside o a b off (λ n. ReadValue.elements n w r) part h

    pub elements-read : (w e : ℕ) (q : Result Spot Refusal) → part.1.0 % w ≡ 0 → q ≡ walked_of e (many part.1.0 r (take (part.0.0 + part.1.0) b) part.0.0) → q ≡ walked_of e (array_r o a w r b off)
    elements-read w e q z k = k ∙ sym (ap (walked_of e) (inside_is w ∙ elements-whole part.1.0 w r (take (part.0.0 + part.1.0) b) part.0.0 z))

    pub ragged-read : (w e : ℕ) → (part.1.0 % w ≡ 0 → ⊥) → Err (refusal NotEnoughBytes part.0.0) ≡ walked_of e (array_r o a w r b off)
    ragged-read w e z = sym (ap (walked_of e) (inside_is w ∙ elements-ragged part.1.0 w r (take (part.0.0 + part.1.0) b) part.0.0 z))

-- arrays that are only tested for a whole number of elements
module _ (o : Order) (c : Fix) (every : (x : ℕ) → T (valid c x)) (b : List ℕ) (off : ℕ) (part : Part) (h : opened_of (length b) (head_r o (size c) b off) ≡ Ok part) where
  aligned : part.0.0 % size c ≡ 0
  aligned =
      let i = head-inv o (size c) b off part.1.0 part.0.0 (inside-inv o (size c) b off part h).head in
      let a = padding-sound (size c) b i.past tt part.0.0 i.first in
      let e : part.0.0 ≡ i.past + gap (size c) i.past = a.end ∙ ap (λ (x : ℕ). i.past + x) (length-pad (size c) i.past) in
      rw e (gap-al c i.past)

  pub plain-read : (w e : ℕ) → w ≡ size c → part.1.0 % w ≡ 0
      → Ok (record { sig = record { 0 = e }; buf = record { 0 = part.0.0 + part.1.0 } }) ≡ walked_of e (array_r o (size c) w (base_r o (fix c)) b off)
  plain-read w e z k =
      let i = inside-inv o (size c) b off part h in
      let d : part.1.0 % size c ≡ 0 = subst (λ (x : ℕ). part.1.0 % x ≡ 0) z k in
      let s : ℕ = part.0.0 + part.1.0 in
      let l : length (take s b) ≡ s = length-take-le s b i.within in
      let m : part.1.0 / size c * size c ≡ part.1.0 = whole-times c part.1.0 d in
      let j = plain o c every (part.1.0 / size c) part.1.0 (take s b) part.0.0 aligned (omega arith) (times-le c part.1.0) in
      let past : ℕ → Result Spot Refusal = λ x. Ok (record { sig = record { 0 = e }; buf = record { 0 = x } }) in
      elements-read o (size c) (base_r o (fix c)) b off part h w e (past s) k (sym (ap (walked_of e) j.1 ∙ ap past l))

-- variants: the type first, and then whatever is done with the contents
module _ {B : Ty → Type 0} (o : Order) (c : (e : Ty) → R (B e)) (b : List ℕ) (off : ℕ) where
  abbrev holds : Ty → R ((e : Ty) × B e)
  holds e = c e >>= λ v. ret (e, v)

  pub variant_opens : (t : Ty) (q : ℕ) → variant_type_r o b off ≡ got t q → variant_of o c b off ≡ holds t b q
  unfolding variant_type_r variant_of
  variant_opens t q h =
      let i = bind_inv (spelled_r o) (λ ts. single ts off) b off t q (sym (here-bind (λ p. spelled_r o >>= λ ts. single ts p) b off) ∙ h) in
      spelled-then o b off (λ p s ts. single ts p >>= holds) i.0 i.1 i.2 ∙ bind-got (single i.0 off) holds b i.1 t q i.3

  pub variant-none : (x : Refusal) → variant_type_r o b off ≡ fault x → variant_of o c b off ≡ fault x
  unfolding variant_type_r variant_of
  variant-none x h = go (bind_is (spelled_r o) (λ ts. single ts off) b off)
    where
      none : (spelled_r o >>= λ ts. single ts off) b off ≡ fault x
      none = sym (here-bind (λ p. spelled_r o >>= λ ts. single ts p) b off) ∙ h

      go : Ran (spelled_r o) (λ ts. single ts off) b off → variant_of o c b off ≡ fault x
      go (ran ts e p z) = spelled-then o b off (λ p s ts. single ts p >>= holds) ts e p ∙ bind-fault (single ts off) holds b e x (sym z ∙ none)
      go (stopped y p z) = spelled-fault o b off (λ p s ts. single ts p >>= holds) y p ∙ ap (λ (u : Refusal). fault u) (fault-inj y x (sym z ∙ none))

-- the walk's own: a value of that type, with one level less
module _ (o : Order) (b : List ℕ) (off : ℕ) where
  pub variant-deep : (n : ℕ) (x : Refusal) → n ≡ 0 → x ≡ refusal VariantTooDeep off → Err x ≡ reached_of (read_var o n b off)
  unfolding read_var fail
  variant-deep n x h e = rw (e, h) (sym (ap reached_of (here-bind {B = Var 0} (λ p. fail VariantTooDeep p) b off)))

  pub variant_shut : (n : ℕ) (x : Refusal) → (n ≡ 0 → ⊥) → variant_type_r o b off ≡ fault x → Err x ≡ reached_of (read_var o n b off)
  unfolding read_var
  variant_shut zero x h k = absurd (h refl)
  variant_shut (suc n) x h k = sym (ap reached_of (variant-none o (λ e. read o (read_var o n) e) b off x k))

  -- where the value inside gets to, the variant does
  variant-holds : (n : ℕ) (t : Ty) (q : ℕ) → (n ≡ 0 → ⊥) → variant_type_r o b off ≡ got t q
      → reached_of (read_var o n b off) ≡ reached_of (read o (read_var o (n - 1)) t b q)
  unfolding read_var
  variant-holds zero t q h k = absurd (h refl)
  variant-holds (suc n) t q h k =
      let z : suc n - 1 ≡ n = omega arith in
      let y : reached_of (read_var o (suc n) b off) ≡ reached_of (read o (read_var o n) t b q) =
      ap reached_of (variant_opens o (λ e. read o (read_var o n) e) b off t q k) ∙ kept (read o (read_var o n) t) (λ v. (t, v)) b q in
      rw z y

  module _ (n : ℕ) (t : Ty) (q : ℕ) (some : n ≡ 0 → ⊥) (typed : variant_type_r o b off ≡ got t q) (e : ℕ) (w : Result Spot Refusal)
      (answers : w ≡ walked_of e (read o (read_var o (n - 1)) t b q)) where
    pub variant-past : (p : Spot) → w ≡ Ok p → Ok (record { 0 = p.buf.0 }) ≡ reached_of (read_var o n b off)
    variant-past p h =
        let i = past-inv e p (read o (read_var o (n - 1)) t b q) (sym answers ∙ h) in
        sym (variant-holds n t q some typed ∙ ap reached_of i.1)

    pub variant-stop : (x : Refusal) → w ≡ Err x → Err x ≡ reached_of (read_var o n b off)
    variant-stop x h =
        sym (variant-holds n t q some typed ∙ ap reached_of (stopped-inv e x (read o (read_var o (n - 1)) t b q) (sym answers ∙ h)))

-- elements of a basic type
pub elements-basic : (o : Order) {W : Type 0} (read_w : R W) (b : List ℕ) (m off : ℕ) (t : Ty) (c : Base) (n e : ℕ) (q : Result Place Refusal)
    → t ≡ base c → e ≡ n → q ≡ reached_of (many m (base_r o c) b off) → walked_to n q ≡ walked_of e (many m (item_r o read_w (item_of t)) b off)
unfolding read item_r
elements-basic o read_w b m off t c n e q h k l = rw (h, k, l) (walked_to_lem n (many m (base_r o c) b off))

pub past_next : {A : Type 0} (e : ℕ) (p : Spot) (q : Result Spot Refusal) (x : Res A) → q ≡ walked_of e x → q ≡ Ok p → p.sig.0 ≡ e
past_next e p q x h k = sym (past-inv e p x (sym h ∙ k)).2
