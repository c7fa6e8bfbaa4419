-- What the functions of the cycle answer, in the terms that their code has at hand: the buffer, where what is seen of it ends, and the answers of
-- the functions that they called.
use Prim.Native.Nat.{ℕ, ◌+◌, ◌-◌, ◌*◌, ◌%◌, ◌≤◌, ◌<◌}
use native.Mathlib.Omega.{arith}
use native.Mathlib.Nat.{pos_of_ne-zero}
use mathlib.Core.List.{List}
use mathlib.Core.Path.{◌≡◌, refl, ap, sym, subst, ◌∙◌}
use lib.ListN.{length, take, drop, get_or, length-take}
use lib.Seq.{length-take-le, take-take}
use lib.Dec.{T}
use Rattle.meaning.specs.declared.Order.{Order}
use Rattle.meaning.specs.declared.Refusal.{Refusal}
use Rattle.meaning.specs.declared.Place.{Place}
use Rattle.meaning.specs.declared.Length.{Length}
use Rattle.meaning.specs.declared.Fault.TheVariants.{NotEnoughBytes}
use Rattle.std.specs.Prelude.{Result, Ok, Err}
use Rattle.meaning.specs.declared.Part.{Part}
use Rattle.meaning.specs.Faults.{refusal}
use Rattle.meaning.specs.Types.{Fix, Base, fix, loose, Ty, Tys, one, more, base, dict, struct, Of, Var, size, whole}
use mathlib.Core.Bool.{false}
use Rattle.meaning.specs.Signature.{code, spell}
use Rattle.meaning.specs.Places.{list_of, TypeAt, Typed, FieldsAt}
use Rattle.meaning.specs.Reader.{Res, got, fault, R, many, reached_of}
use Rattle.meaning.proofs.ValueMeets.{ne-size}
use Rattle.meaning.specs.ReadValue.{valid, padding, base_r, array_r, pair_r, read, reads, read_var}
use Rattle.meaning.proofs.Local.{Local, bind-got, bind-fault, many-end}
use Rattle.meaning.proofs.ValueLocal.{read-local, read_var-local}
use Rattle.meaning.proofs.Grows.{Grows, read-grows, var-grows, entry-local, entry-grows}
use Rattle.meaning.proofs.Loop.{at-inv, refused-inv, Onward}
use Rattle.meaning.proofs.PlaceLaws.{lies, lies-fields, is_none, is-more, is_base_lem, is-variant}
use Rattle.validate_raw.specs.declared.walk.Spot.{Spot}
use Rattle.validate_raw.specs.Head.{head_r, opened_of}
use Rattle.validate_raw.specs.FirstBytes.{whole_code, composite, element_align}
use Rattle.validate_raw.specs.Items.{Item, single, pair, item_of, align_item, whole_item}
use Rattle.validate_raw.specs.Walk.{walked_of, walked_to, entry_r, Held, item_r, after, fields_to}
use Rattle.validate_raw.proofs.array_head.ArrayLaws.{inside-inv, inside-after}
use Rattle.util.proofs.Windows.{front-is}
use Rattle.basic.specs.Basic.{BaseCode}
use Rattle.validate_raw.proofs.first_bytes.ItemLaws.{is-single}
use Rattle.validate_raw.proofs.first_bytes.ElementLaws.{basic, element-align, Tested, singly, together, tested}
use Rattle.validate_raw.proofs.walk.WalkLaws.{base_read, variant-read, elements-basic}
use Rattle.validate_raw.proofs.walk.WalkLaws.{walked_to_lem, past-inv, stopped-inv, pair-got, pair-fault, shut-read, elements-read, ragged-read, plain-read}
use Rattle.basic.proofs.LoopLaws.{moved, turned, refused, ended}

-- The measure: four times the sum of the levels, of what is left of the signature and of the bytes left, and an order of the functions at one place
abbrev pub measure : ℕ → ℕ → ℕ → ℕ → ℕ
measure levels depth bytes rank = 4 * (levels + depth + bytes) + rank

-- a variant's value, of a type whose signature of l bytes stands before it, is below the variant: that signature is taken out of the bytes left
pub variant-falls : (levels end o f n l t : ℕ) → (levels ≡ 0 → ⊥) → o < f → l ≤ n → f + n < end → measure levels 0 (end - o) 0 ≡ t
    → measure (levels - 1) (l - 0) (end - (f + n + 1)) 1 < t
variant-falls levels end o f n l t h i j k e = let p : 0 < levels = pos_of_ne-zero h in omega arith

pub part-fits : (b : List ℕ) (f n : ℕ) → length (take (f + n - f) (drop f b)) ≤ n
part-fits b f n = omega (arith, length-take (f + n - f) (drop f b))

-- every reader of the cycle gets further, and rests on what lies before its end
pub value-local : (o : Order) (n : ℕ) (t : Ty) → Local (read o (read_var o n) t)
value-local o n t = read-local o (read_var o n) (read_var-local o n) t

pub value_grows : (o : Order) (n : ℕ) (t : Ty) → Grows (read o (read_var o n) t)
value_grows o n t = read-grows o (read_var o n) (read_var-local o n) (var-grows o n) t

pub item-local : (o : Order) (n : ℕ) (i : Item) → Local (item_r o (read_var o n) i)
unfolding item_r entry_r
item-local o n (single t) = value-local o n t
item-local o n (pair k t) = entry-local o k (read o (read_var o n) t) (value-local o n t)

pub item-grows : (o : Order) (n : ℕ) (i : Item) → Grows (item_r o (read_var o n) i)
unfolding item_r entry_r
item-grows o n (single t) = value_grows o n t
item-grows o n (pair k t) = entry-grows o k (read o (read_var o n) t) (value-local o n t)

-- a basic value, a variant, and basic elements: what a reader answers for the byte that stands there
module _ (o : Order) (n : ℕ) (s b : List ℕ) (i p : ℕ) (q : Result Place Refusal) where
  pub base-walks : composite (get_or s i 0) ≡ false → ((c : Base) → get_or s i 0 ≡ code c → q ≡ reached_of (base_r o c b p))
      → (t : Ty) (m : ℕ) → TypeAt t s i m → walked_to (i + 1) q ≡ walked_of m (read o (read_var o n) t b p)
  base-walks k h t m ty =
      let z = basic k in
      let y = is_base_lem ty z.0 z.1 z.2 z.3 in
      base_read o (read_var o n) b p t y.of (i + 1) m q y.is y.ends (h y.of y.byte)

  pub variant-walks : get_or s i 0 ≡ 118 → q ≡ reached_of (read_var o n b p) → (t : Ty) (m : ℕ) → TypeAt t s i m → walked_to (i + 1) q ≡ walked_of m (read o (read_var o n) t b p)
  variant-walks k h t m ty = let y = is-variant ty k in variant-read o (read_var o n) b p t (i + 1) m q y.is y.ends h

  pub basics-walk : (l : ℕ) → composite (get_or s i 0) ≡ false → ((c : Base) → get_or s i 0 ≡ code c → q ≡ reached_of (many l (base_r o c) b p))
      → (t : Ty) (m : ℕ) → TypeAt t s i m → walked_to (i + 1) q ≡ walked_of m (many l (item_r o (read_var o n) (item_of t)) b p)
  basics-walk l k h t m ty =
      let z = basic k in
      let y = is_base_lem ty z.0 z.1 z.2 z.3 in
      elements-basic o (read_var o n) b l p t y.of (i + 1) m q y.is y.ends (h y.of y.byte)

-- what the reader of basic values answers of those that fill what it was handed
abbrev pub Basics : Order → ℕ → List ℕ → ℕ → Result Place Refusal → Type 0
Basics o k b p q = (c : Base) → k ≡ code c → q ≡ reached_of (many (length b - p) (base_r o c) b p)

-- where that is a front of the buffer which is no shorter, it read the buffer
pub front-basics : (o : Order) (k : ℕ) (seen b : List ℕ) (p : ℕ) (q : Result Place Refusal) → Basics o k seen p q
    → length b ≤ length seen → seen ≡ take (length seen) b → Basics o k b p q
front-basics o k seen b p q answers long front = subst (λ (x : List ℕ). Basics o k x p q) (front-is seen b long front) answers

-- some basic type's code stands there
pub base-code : {s : List ℕ} {i : ℕ} → Typed s i → composite (get_or s i 0) ≡ false → BaseCode (get_or s i 0)
base-code y k =
    let z = basic k in
    let b = is_base_lem y.stands z.0 z.1 z.2 z.3 in
    record { of = b.of; is = b.byte }

-- what does not begin with { is walked over as a value
pub single-walks : (o : Order) (n : ℕ) (s b : List ℕ) (i p : ℕ) (q : Result Spot Refusal) → (get_or s i 0 ≡ 123 → ⊥) → (t : Ty) (m : ℕ) → TypeAt t s i m
    → q ≡ walked_of m (read o (read_var o n) t b p) → q ≡ walked_of m (item_r o (read_var o n) (item_of t) b p)
unfolding item_r
single-walks o n s b i p q k t m ty h =
    h ∙ ap (λ (x : Item). walked_of m (item_r o (read_var o n) x b p)) (sym (is-single ty k))

-- a walk that got past a value, or not
reached-past : {A : Type 0} (e : ℕ) (p : Spot) (q : Result Spot Refusal) (x : Res A) → q ≡ walked_of e x → q ≡ Ok p → (reached_of x ≡ Ok p.buf) × (e ≡ p.sig.0)
reached-past e p q x h k = let i = past-inv e p x (sym h ∙ k) in (ap reached_of i.1, i.2)

reached-stop : {A : Type 0} (e : ℕ) (y : Refusal) (q : Result Spot Refusal) (x : Res A) → q ≡ walked_of e x → q ≡ Err y → reached_of x ≡ Err y
reached-stop e y q x h k = ap reached_of (stopped-inv e y x (sym h ∙ k))

-- a reader's turn, where the answer is a walk's
module _ {A : Type 0} (r : R A) (lr : Local r) (gr : Grows r) (buf : List ℕ) where
  pub walk-moved : (o e : ℕ) (p : Spot) (q : Result Spot Refusal) → o ≤ length buf → q ≡ walked_of e (r buf o) → q ≡ Ok p → (o < p.buf.0) × (p.buf.0 ≤ length buf) × (e ≡ p.sig.0)
  walk-moved o e p q h k l =
      let i = reached-past e p q (r buf o) k l in
      let m = moved r lr gr buf o (Ok p.buf) p.buf h (sym i.0) refl in
      (m.0, m.1, i.1)

-- The loop over elements and entries
module _ (o : Order) (n : ℕ) (i : Item) (buf : List ℕ) (m first : ℕ) (e : ℕ) where
  abbrev items_to : ℕ → Type 0
  items_to p = Onward (item_r o (read_var o n) i) buf m first p

  abbrev answer : Result Spot Refusal
  answer = walked_of e (many m (item_r o (read_var o n) i) buf first)

  abbrev reader : R (Held i (Var n))
  reader = item_r o (read_var o n) i

  module _ (p : ℕ) (w : items_to p) where
    pub items-turned : (x : Spot) (q : Result Spot Refusal) → p < length buf → q ≡ walked_of e (reader buf p) → q ≡ Ok x → items_to x.buf.0 × (x.sig.0 ≡ e)
    items-turned x q h k l =
        let z = reached-past e x q (reader buf p) k l in
        (turned reader (item-local o n i) (item-grows o n i) buf m first p (Ok x.buf) x.buf w h (sym z.0) refl, sym z.1)

    pub items_refused : (q : Result Spot Refusal) (x : Refusal) → p < length buf → q ≡ walked_of e (reader buf p) → q ≡ Err x → Err x ≡ answer
    items_refused q x h k l =
        let z = reached-stop e x q (reader buf p) k l in
        ap (walked_to e) (refused reader (item-local o n i) (item-grows o n i) buf m first p (Err x) x w h (sym z) refl)
        ∙ walked_to_lem e (many m reader buf first)

    pub items-ended : (z y : ℕ) → length buf ≤ p → z ≡ e → y ≡ p → Ok (record { sig = record { 0 = z }; buf = record { 0 = y } }) ≡ answer
    items-ended z y h k l =
        rw k (ap (walked_to e) (ended reader (item-local o n i) (item-grows o n i) buf m first p y w h l) ∙ walked_to_lem e (many m reader buf first))

  pub items-none : (z : ℕ) → m ≡ length buf - first → first ≡ length buf → z ≡ e → Ok (record { sig = record { 0 = z }; buf = record { 0 = first } }) ≡ answer
  items-none z h k l = rw l (sym (ap (walked_of e) (many-end m reader buf first (omega arith))))

-- Structs
after-at : (r : Result Place Refusal) → after r (λ p. Ok (record { 0 = p })) ≡ r
after-at (Ok p) = refl
after-at (Err x) = refl

module _ {W : Type 0} (o : Order) (read_w : R W) (b : List ℕ) where
  abbrev rest : Tys → ℕ → Result Place Refusal
  rest fs q = fields_to o read_w (list_of fs) b q

  fields-are : (fs : Tys) (p : ℕ) → reached_of (reads o read_w fs b p) ≡ rest fs p
  unfolding reads read
  fields-are (one t) p = sym (after-at (reached_of (read o read_w t b p)))
  fields-are (more t fs) p = go (read o read_w t b p) refl (λ q. fields-are fs q)
    where
      go : (x : Res (Of t W)) → read o read_w t b p ≡ x → ((q : ℕ) → reached_of (reads o read_w fs b q) ≡ rest fs q)
          → reached_of (pair_r (read o read_w t) (reads o read_w fs) b p) ≡ after (reached_of (read o read_w t b p)) (rest fs)
      go (got v q) h ih =
          pair-got (read o read_w t) (reads o read_w fs) b p v q h ∙ ih q ∙ sym (ap (λ (y : Res (Of t W)). after (reached_of y) (rest fs)) h)
      go (fault x) h ih =
          ap reached_of (pair-fault (read o read_w t) (reads o read_w fs) b p x h) ∙ sym (ap (λ (y : Res (Of t W)). after (reached_of y) (rest fs)) h)

  -- the alignment of a struct is what the code read from the table
  module _ (t : Ty) (fs : Tys) (is : t ≡ struct fs) (off e to : ℕ) (eight : to ≡ 8) where
    pub struct-stop : (x : Refusal) → reached_of (padding to b off) ≡ Err x → Err x ≡ walked_of e (read o read_w t b off)
    unfolding read
    struct-stop x h =
        let k : reached_of (padding 8 b off) ≡ Err x = rw eight at h in
        let z = bind-fault (padding 8) (λ u. reads o read_w fs) b off x (refused-inv (padding 8 b off) x k) in
        rw is (sym (ap (walked_of e) z))

    pub struct_fields : (p : Place) (q : Result Spot Refusal) → reached_of (padding to b off) ≡ Ok p → q ≡ walked_to e (rest fs p.0) → q ≡ walked_of e (read o read_w t b off)
    unfolding read
    struct_fields p q h g =
        let k : reached_of (padding 8 b off) ≡ Ok p = rw eight at h in
        let i = at-inv (padding 8 b off) p k in
        let z = bind-got (padding 8) (λ u. reads o read_w fs) b off i.0 p.0 i.1 in
        let y : q ≡ walked_of e (read o read_w (struct fs) b off) =
        g ∙ ap (walked_to e) (sym (fields-are fs p.0)) ∙ walked_to_lem e (reads o read_w fs b p.0) ∙ sym (ap (walked_of e) z) in
        rw is y

-- the loop over a struct's fields: what is left of them at the places i and p answers w
module _ (o : Order) (n : ℕ) (s b : List ℕ) (e : ℕ) (w : Result Spot Refusal) where
  pub record Rest (i p : ℕ) : Type 0 where
    pub tys : List Ty
    pub stands : FieldsAt tys s i e
    pub answers : walked_to e (fields_to o (read_var o n) tys b p) ≡ w

  abbrev onward : List Ty → Result Place Refusal → Result Spot Refusal
  onward us r = walked_to e (after r (λ j. fields_to o (read_var o n) us b j))

  module _ {i p : ℕ} (left : Rest i p) where
    pub rest-start : i < length s
    rest-start = (lies-fields left.stands).start

    pub rest-close : get_or s i 0 ≡ 41 → Ok (record { sig = record { 0 = i + 1 }; buf = record { 0 = p } }) ≡ w
    rest-close q =
        let y = is_none left.stands q in
        ap (λ (x : ℕ). Ok (record { sig = record { 0 = x }; buf = record { 0 = p } })) (sym y.ends)
        ∙ subst (λ (x : List Ty). walked_to e (fields_to o (read_var o n) x b p) ≡ w) y.is left.answers

    module _ (other : get_or s i 0 ≡ 41 → ⊥) where
      pub rest_typed : Typed s i
      rest_typed = let y = is-more left.stands other in record { ty = y.first; next = y.middle; stands = y.here }

      -- a field, of which q is the answer
      module _ (q : Result Spot Refusal) (walks : (t : Ty) (m : ℕ) → TypeAt t s i m → q ≡ walked_of m (read o (read_var o n) t b p)) where
        pub rest-past : (x : Spot) → q ≡ Ok x → (i < x.sig.0) × Rest x.sig.0 x.buf.0
        rest-past x k =
            let y = is-more left.stands other in
            let a = past-inv y.middle x (read o (read_var o n) y.first b p) (sym (walks y.first y.middle y.here) ∙ k) in
            let all = subst (λ (z : List Ty). walked_to e (fields_to o (read_var o n) z b p) ≡ w) y.is left.answers in (
              omega (arith, (lies y.here).past, a.2),
              record {
                tys = y.others;
                stands = subst (λ (j : ℕ). FieldsAt y.others s j e) a.2 y.rest;
                answers = ap (λ (z : Res (Of y.first (Var n))). onward y.others (reached_of z)) (sym a.1) ∙ all;
              },
            )

        pub rest-stop : (x : Refusal) → q ≡ Err x → Err x ≡ w
        rest-stop x k =
            let y = is-more left.stands other in
            let a = stopped-inv y.middle x (read o (read_var o n) y.first b p) (sym (walks y.first y.middle y.here) ∙ k) in
            ap (λ (z : Res (Of y.first (Var n))). onward y.others (reached_of z)) (sym a)
            ∙ subst (λ (z : List Ty). walked_to e (fields_to o (read_var o n) z b p) ≡ w) y.is left.answers

-- the bytes of that field lie ahead
pub value-moved : (o : Order) (n : ℕ) (s buf : List ℕ) (i p : ℕ) (x : Spot) (q : Result Spot Refusal) → Typed s i
    → ((t : Ty) (e : ℕ) → TypeAt t s i e → q ≡ walked_of e (read o (read_var o n) t buf p)) → p ≤ length buf → q ≡ Ok x → (p < x.buf.0) × (x.buf.0 ≤ length buf)
value-moved o n s buf i p x q y walks h k =
    let r = read o (read_var o n) y.ty in
    let a = walk-moved r (value-local o n y.ty) (value_grows o n y.ty) buf p y.next x q h (walks y.ty y.next y.stands) k in
    (a.0, a.1)

-- Arrays and dicts
module _ (o : Order) (n : ℕ) (buf : List ℕ) (off : ℕ) (w : off ≤ length buf) where
  -- what the head of an array answered, for the alignment that its elements have
  opened : (a b : ℕ) (q r : Result Part Refusal) → q ≡ opened_of (length buf) (head_r o a buf off) → q ≡ r → a ≡ b → opened_of (length buf) (head_r o b buf off) ≡ r
  opened a b q r h k e =
      ap (λ (x : ℕ). opened_of (length buf) (head_r o x buf off)) (sym e) ∙ sym h ∙ k

  pub opened-within : (a : ℕ) (q : Result Part Refusal) (part : Part) → q ≡ opened_of (length buf) (head_r o a buf off) → q ≡ Ok part
      → (off + 4 ≤ part.0.0) × (part.0.0 + part.1.0 ≤ length buf)
  opened-within a q part h k =
      let z = opened a a q (Ok part) h k refl in
      let i = inside-inv o a buf off part z in
      (inside-after o a buf off part w z, i.within)

  module _ (a : ℕ) (q : Result Part Refusal) (h : q ≡ opened_of (length buf) (head_r o a buf off)) (sig : List ℕ) (at : ℕ) (ea : a ≡ element_align (get_or sig at 0))
      (t : Ty) (e : ℕ) (ty : TypeAt t sig at e) where
    -- what an array or a dict is to answer, where t stands for what it holds
    abbrev holding : Ty → Result Spot Refusal
    holding u = walked_of e (array_r o (align_item (item_of u)) (whole_item (item_of u)) (item_r o (read_var o n) (item_of u)) buf off)

    -- what its elements answer, in the l bytes from f on
    abbrev filling : ℕ → List ℕ → ℕ → Result Spot Refusal
    filling l b f = walked_of e (many l (item_r o (read_var o n) (item_of t)) b f)

    fits : a ≡ align_item (item_of t)
    fits = ea ∙ element-align ty

    pub array-shut : (x : Refusal) → q ≡ Err x → Err x ≡ holding t
    array-shut x g =
        shut-read o (align_item (item_of t)) (item_r o (read_var o n) (item_of t)) buf off (whole_item (item_of t)) e x
        (opened a (align_item (item_of t)) q (Err x) h g fits)

    module _ (part : Part) (z : ℕ) (g : q ≡ Ok part) (ez : z ≡ whole_code (get_or sig at 0)) where
      inside : opened_of (length buf) (head_r o (align_item (item_of t)) buf off) ≡ Ok part
      inside = opened a (align_item (item_of t)) q (Ok part) h g fits

      is-tested : Tested t z
      is-tested = subst (λ (x : ℕ). Tested t x) (sym ez) (tested ty)

      -- the code lends the elements the part that ends with them
      abbrev lent : List ℕ
      lent = take (part.0.0 + part.1.0) buf

      contents : (r : Result Spot Refusal) → r ≡ filling (length lent - part.0.0) lent part.0.0 → r ≡ filling part.1.0 lent part.0.0
      contents r k =
          let long : length lent ≡ part.0.0 + part.1.0 = length-take-le (part.0.0 + part.1.0) buf (opened-within a q part h g).1 in
          let same : length lent - part.0.0 ≡ part.1.0 = omega arith in
          k ∙ ap (λ (x : ℕ). filling x lent part.0.0) same

      pub array-elements : (r : Result Spot Refusal) → z ≡ 0 → r ≡ filling (length lent - part.0.0) lent part.0.0 → r ≡ holding t
      array-elements r none m = go is-tested
        where
          no_size : (c : Fix) → size c ≡ 0 → ⊥
          no_size c d = omega (arith, ne-size c)

          go : Tested t z → r ≡ holding t
          go (singly y each) =
              elements-read o (align_item (item_of t)) (item_r o (read_var o n) (item_of t)) buf off part inside (whole_item (item_of t)) e r
              (rw each (omega arith)) (contents r m)
          go (together c y v u every) = absurd (no_size c (sym v ∙ none))

      abbrev ending : ℕ → Result Spot Refusal
      ending x = Ok (record { sig = record { 0 = x }; buf = record { 0 = part.0.0 + part.1.0 } })

      plainly : (c : Fix) → t ≡ base (fix c) → z ≡ size c → whole_item (item_of t) ≡ size c → ((x : ℕ) → T (valid c x)) → part.1.0 % z ≡ 0 → ending (at + 1) ≡ holding t
      unfolding read spell item_r
      plainly c y v u every d =
          let ends : e ≡ at + 1 = ty.spelled.ends ∙ ap (λ (x : Ty). at + length (spell x)) y in
          let wide : whole (base (fix c)) ≡ size c = sym (ap (λ (x : Ty). whole_item (item_of x)) y) ∙ u in
          let to : a ≡ size c = fits ∙ ap (λ (x : Ty). align_item (item_of x)) y in
          let i : opened_of (length buf) (head_r o (size c) buf off) ≡ Ok part = opened a (size c) q (Ok part) h g to in
          let p = plain-read o c every buf off part i (whole (base (fix c))) e wide (subst (λ (x : ℕ). part.1.0 % x ≡ 0) (v ∙ sym wide) d) in
          ap ending (sym ends) ∙ subst (λ (x : Ty). ending e ≡ holding x) (sym y) p

      pub array_plain : (z ≡ 0 → ⊥) → part.1.0 % z ≡ 0 → ending (at + 1) ≡ holding t
      array_plain some d = go is-tested
        where
          go : Tested t z → ending (at + 1) ≡ holding t
          go (singly y each) = absurd (some y)
          go (together c y v u every) = plainly c y v u every d

      pub array-ragged : (x : Refusal) → (z ≡ 0 → ⊥) → (part.1.0 % z ≡ 0 → ⊥) → x ≡ refusal NotEnoughBytes part.0.0 → Err x ≡ holding t
      array-ragged x some d k = go is-tested
        where
          go : Tested t z → Err x ≡ holding t
          go (singly y each) = absurd (some y)
          go (together c y v u every) =
              rw k (ragged-read o (align_item (item_of t)) (item_r o (read_var o n) (item_of t)) buf off part inside (whole_item (item_of t)) e
              (λ m. d (subst (λ (i : ℕ). part.1.0 % i ≡ 0) (u ∙ sym v) m)))

-- an entry: its padding, its key, and its value. The padding is what the code read from the table
module _ (o : Order) (n : ℕ) (u : Ty) (k : Base) (t : Ty) (is : u ≡ dict loose k t) (b : List ℕ) (off e to : ℕ) (eight : to ≡ 8) where
  abbrev entry_answer : Result Spot Refusal
  entry_answer = walked_of e (item_r o (read_var o n) (item_of u) b off)

  abbrev key_value : R (Held (pair k t) (Var n))
  key_value = pair_r (base_r o k) (read o (read_var o n) t)

  entry-is : walked_to e (reached_of (entry_r o (read_var o n) k t b off)) ≡ entry_answer
  unfolding item_r
  entry-is = rw is (walked_to_lem e (entry_r o (read_var o n) k t b off))

  pub entry-stop : (x : Refusal) → reached_of (padding to b off) ≡ Err x → Err x ≡ entry_answer
  unfolding entry_r
  entry-stop x h =
      let z : reached_of (padding 8 b off) ≡ Err x = rw eight at h in
      sym (ap (λ (y : Res (Held (pair k t) (Var n))). walked_to e (reached_of y)) (bind-fault (padding 8) (λ y. key_value) b off x (refused-inv (padding 8 b off) x z))) ∙ entry-is

  module _ (p : Place) (h : reached_of (padding to b off) ≡ Ok p) where
    pair-at : entry_r o (read_var o n) k t b off ≡ key_value b p.0
    unfolding entry_r
    pair-at =
        let z : reached_of (padding 8 b off) ≡ Ok p = rw eight at h in
        let i = at-inv (padding 8 b off) p z in
        bind-got (padding 8) (λ y. key_value) b off i.0 p.0 i.1

    pub entry_key : (x : Refusal) → reached_of (base_r o k b p.0) ≡ Err x → Err x ≡ entry_answer
    entry_key x g =
        let z = pair-at ∙ pair-fault (base_r o k) (read o (read_var o n) t) b p.0 x (refused-inv (base_r o k b p.0) x g) in
        sym (ap (λ (y : Res (Held (pair k t) (Var n))). walked_to e (reached_of y)) z) ∙ entry-is

    module _ (v : Place) (g : reached_of (base_r o k b p.0) ≡ Ok v) (d : ℕ) (q : Result Spot Refusal) (walks : q ≡ walked_of d (read o (read_var o n) t b v.0)) where
      value-at : reached_of (entry_r o (read_var o n) k t b off) ≡ reached_of (read o (read_var o n) t b v.0)
      value-at =
          let i = at-inv (base_r o k b p.0) v g in
          ap reached_of pair-at ∙ pair-got (base_r o k) (read o (read_var o n) t) b p.0 i.0 v.0 i.1

      pub entry_past : (x : Spot) → q ≡ Ok x → e ≡ d + 1 → Ok (record { sig = record { 0 = x.sig.0 + 1 }; buf = record { 0 = x.buf.0 } }) ≡ entry_answer
      entry_past x r z =
          let i = reached-past d x q (read o (read_var o n) t b v.0) walks r in
          let y : x.sig.0 + 1 ≡ e = sym (z ∙ ap (λ (j : ℕ). j + 1) i.1) in
          ap (λ (j : ℕ). Ok (record { sig = record { 0 = j }; buf = record { 0 = x.buf.0 } })) y ∙ sym (ap (walked_to e) (value-at ∙ i.0)) ∙ entry-is

      pub entry_value : (x : Refusal) → q ≡ Err x → Err x ≡ entry_answer
      entry_value x r = sym (ap (walked_to e) (value-at ∙ reached-stop d x q (read o (read_var o n) t b v.0) walks r)) ∙ entry-is
