-- Types at places of a signature: where they end, which type the bytes there say, and how a walk goes from one to the next.
use Prim.Native.Nat.{ℕ, zero, suc, ◌+◌, ◌≤◌, ◌<◌}
use native.Mathlib.Omega.{arith}
use mathlib.Core.Bool.{true}
use mathlib.Core.List.{List, [], ◌∷◌, ◌++◌, append_assoc, append-nil}
use mathlib.Core.Path.{◌≡◌, refl, ap, sym, subst, ◌∙◌}
use mathlib.Core.Logic.{◌⊎◌, inl, inr}
use lib.ListN.{length, take, drop, get_or, length-append, take-append-drop}
use lib.Seq.{drop-cons, drop-drop, take-length}
use lib.Dec.{T}
use Rattle.meaning.specs.Types.{Base, in_array, loose, Ty, base, arr, dict, struct, variant, Tys, one, more}
use Rattle.meaning.specs.Signature.{code, is_key, not_loose, spell, spells, spell_all, shape, shapes, nest, legal, all_legal, Tok, is_base, is_arr, is_var, is_open, is_close, is_curl, is_uncurl, is_bad, toks, find, parse, types}
use Rattle.meaning.specs.Places.{Spelled, TypeAt, Typed, shape_all, list_of, FieldsAt, EntryAt, EntryTyped}
use Rattle.meaning.proofs.Meets.{At, at_split, at_read}
use Rattle.meaning.proofs.SignatureLaws.{find-base, parse-sound}
use Rattle.meaning.proofs.Booleans.{and_left, and_right, and_both}

-- Bytes at a place. `At` says the same with no end of the list, so its laws are used
pub spelled_at : {xs s : List ℕ} {p e : ℕ} → Spelled xs s p e → At s p xs e
spelled_at {xs} {s} {p} {e} h = record {
  end = h.ends;
  is = rw (h.ends, ← (drop-drop (length xs) p s)) (sym (take-append-drop (length xs) (drop p s)) ∙ ap (λ (l : List ℕ). l ++ drop (length xs) (drop p s)) h.same);
}

pub at-spelled : {xs s : List ℕ} {p e : ℕ} → At s p xs e → e ≤ length s → Spelled xs s p e
at-spelled {xs} {s} {p} {e} h l = record { same = at_read s p xs e h; ends = h.end; within = l }

pub record Split (xs ys s : List ℕ) (p e : ℕ) : Type 0 where
  pub middle : ℕ
  pub left : Spelled xs s p middle
  pub right : Spelled ys s middle e

pub spelled-split : (xs : List ℕ) {ys s : List ℕ} {p e : ℕ} → Spelled (xs ++ ys) s p e → Split xs ys s p e
spelled-split xs {ys} {s} {p} {e} h =
    let a = at_split s p xs ys e (spelled_at h) in
    record { middle = p + length xs; left = at-spelled a.0 (omega (arith, h.within, a.1.end)); right = at-spelled a.1 h.within }

pub record Head (x : ℕ) (xs s : List ℕ) (p e : ℕ) : Type 0 where
  pub inside : p < length s
  pub byte : get_or s p 0 ≡ x
  pub rest : Spelled xs s (p + 1) e

pub spelled-head : {x : ℕ} {xs s : List ℕ} {p e : ℕ} → Spelled (x ∷ xs) s p e → Head x xs s p e
spelled-head {x} {xs} {s} {p} {e} h =
    let l : p < length s = omega (arith, h.ends, h.within) in
    let a = at_split s p (x ∷ []) xs e (spelled_at h) in
    let q : get_or s p 0 ∷ drop (suc p) s ≡ x ∷ (xs ++ drop e s) = sym (drop-cons s p 0 l) ∙ (spelled_at h).is in
    record { inside = l; byte = cc; rest = at-spelled a.1 h.within }

-- the one byte that is left, and the place after it
pub record Last (x : ℕ) (s : List ℕ) (p e : ℕ) : Type 0 where
  pub inside : p < length s
  pub byte : get_or s p 0 ≡ x
  pub ends : e ≡ p + 1

pub spelled-last : {x : ℕ} {s : List ℕ} {p e : ℕ} → Spelled (x ∷ []) s p e → Last x s p e
spelled-last h = let i = spelled-head h in record { inside = i.inside; byte = i.byte; ends = h.ends }

-- what stands at a place is one byte or more, within the signature
pub record Lies (s : List ℕ) (p e : ℕ) : Type 0 where
  pub start : p < length s
  pub past : p < e
  pub within : e ≤ length s

spelled-lies : {xs s : List ℕ} {p e : ℕ} → Spelled xs s p e → 0 < length xs → Lies s p e
spelled-lies h l = record { start = omega arith; past = omega arith; within = h.within }

spell-some : (t : Ty) → 0 < length (spell t)
unfolding spell
spell-some (base c) = omega arith
spell-some (arr u) = omega arith
spell-some (dict in_array k u) = omega arith
spell-some (dict loose k u) = omega arith
spell-some (struct fs) = omega arith
spell-some variant = omega arith

pub lies : {t : Ty} {s : List ℕ} {p e : ℕ} → TypeAt t s p e → Lies s p e
lies {t} h = spelled-lies h.spelled (spell-some t)

pub lies-fields : {ts : List Ty} {s : List ℕ} {p e : ℕ} → FieldsAt ts s p e → Lies s p e
lies-fields {ts} h = spelled-lies h.spelled (rw length-append (omega arith))

-- a dict's key and the byte after it are both there
pub record LiesEntry (s : List ℕ) (p e : ℕ) : Type 0 where
  pub start : p < length s
  pub second : p + 1 < length s
  pub past : p + 1 < e
  pub within : e ≤ length s

pub lies-entry : {k : Base} {u : Ty} {s : List ℕ} {p e : ℕ} → EntryAt k u s p e → LiesEntry s p e
lies-entry {k} {u} h =
    let i = spelled-head h.spelled in
    let l = spelled-lies i.rest (omega (arith, length-append (spell u) (125 ∷ []))) in
    record { start = i.inside; second = l.start; past = l.past; within = l.within }

-- The parts of a dict's entry
pub record InEntry (k : Base) (u : Ty) (s : List ℕ) (p e : ℕ) : Type 0 where
  pub byte : get_or s p 0 ≡ code k
  pub key : T (is_key k)
  pub middle : ℕ
  pub stands : TypeAt u s (p + 1) middle
  pub inside : middle < length s
  pub bracket : get_or s middle 0 ≡ 125
  pub ends : e ≡ middle + 1

pub in_entry : {k : Base} {u : Ty} {s : List ℕ} {p e : ℕ} → EntryAt k u s p e → InEntry k u s p e
in_entry {k} {u} h =
    let i = spelled-head h.spelled in
    let j = spelled-split (spell u) i.rest in
    let l = spelled-last j.right in
    record {
      byte = i.byte;
      key = h.key;
      middle = j.middle;
      stands = record { spelled = j.left; shaped = h.shaped };
      inside = l.inside;
      bracket = l.byte;
      ends = l.ends;
    }

-- Which type stands at a place, with its parts
pub record IsBase (t : Ty) (s : List ℕ) (p e : ℕ) : Type 0 where
  pub of : Base
  pub is : t ≡ base of
  pub byte : get_or s p 0 ≡ code of
  pub ends : e ≡ p + 1

pub record IsVariant (t : Ty) (p e : ℕ) : Type 0 where
  pub is : t ≡ variant
  pub ends : e ≡ p + 1

pub record IsStruct (t : Ty) (s : List ℕ) (p e : ℕ) : Type 0 where
  pub fields : Tys
  pub is : t ≡ struct fields
  pub stands : FieldsAt (list_of fields) s (p + 1) e

pub record IsArray (t : Ty) (s : List ℕ) (p e : ℕ) : Type 0 where
  pub element : Ty
  pub is : t ≡ arr element
  pub other : get_or s (p + 1) 0 ≡ 123 → ⊥
  pub stands : TypeAt element s (p + 1) e

pub record IsDict (t : Ty) (s : List ℕ) (p e : ℕ) : Type 0 where
  pub key : Base
  pub value : Ty
  pub is : t ≡ dict in_array key value
  pub brace : get_or s (p + 1) 0 ≡ 123
  pub stands : EntryAt key value s (p + 2) e

pub record IsLoose (t : Ty) (s : List ℕ) (p e : ℕ) : Type 0 where
  pub key : Base
  pub value : Ty
  pub is : t ≡ dict loose key value
  pub stands : EntryAt key value s (p + 1) e

-- what a type is that begins with this byte of the grammar; a closing bracket begins none, and so does a byte that the grammar has not
abbrev Begins : Tok → Ty → List ℕ → ℕ → ℕ → Type 0
Begins (is_base c) t s p e = (t ≡ base c) × (e ≡ p + 1)
Begins is_arr t s p e = IsArray t s p e ⊎ IsDict t s p e
Begins is_var t s p e = IsVariant t p e
Begins is_open t s p e = IsStruct t s p e
Begins is_close t s p e = ⊥
Begins is_curl t s p e = IsLoose t s p e
Begins is_uncurl t s p e = ⊥
Begins is_bad t s p e = ⊥

spells-list : (fs : Tys) → spells fs ≡ spell_all (list_of fs)
unfolding spell spell_all
spells-list (one u) = sym (append-nil (spell u))
spells-list (more u fs) = ap (λ (l : List ℕ). spell u ++ l) (spells-list fs)

shapes-list : (fs : Tys) → T (shapes fs) → T (shape_all (list_of fs))
unfolding shape shape_all
shapes-list (one u) h = and_both (shape u) true h tt
shapes-list (more u fs) h = and_both (shape u) (shape_all (list_of fs)) (and_left (shape u) (shapes fs) h) (shapes-list fs (and_right (shape u) (shapes fs) h))

-- the byte x that the spelling of t begins with is the byte n that was read there
begun : (t : Ty) (s : List ℕ) (p e : ℕ) {x n : ℕ} (k : Tok) → get_or s p 0 ≡ x → find toks x ≡ k → get_or s p 0 ≡ n → Begins k t s p e → Begins (find toks n) t s p e
begun t s p e k h f q b = subst (λ (j : Tok). Begins j t s p e) (sym f ∙ ap (find toks) (sym h ∙ q)) b

not-loose : {u : Ty} {s : List ℕ} {p e : ℕ} → T (not_loose u) → IsLoose u s p e → ⊥
not-loose h l = subst (λ (t : Ty). T (not_loose t)) l.is h

begins : (t : Ty) {s : List ℕ} {p e : ℕ} → TypeAt t s p e → (n : ℕ) → get_or s p 0 ≡ n → Begins (find toks n) t s p e
unfolding spell shape find
begins (base c) {s} {p} {e} h n q = let l = spelled-last h.spelled in begun (base c) s p e (is_base c) l.byte (find-base c) q (refl, l.ends)
begins variant {s} {p} {e} h n q = let l = spelled-last h.spelled in begun variant s p e is_var l.byte refl q (record { is = refl; ends = l.ends })
begins (arr u) {s} {p} {e} h n q =
    let i = spelled-head h.spelled in
    let stands : TypeAt u s (p + 1) e = record { spelled = i.rest; shaped = and_right (not_loose u) (shape u) h.shaped } in
    let other : (get_or s (p + 1) 0 ≡ 123 → ⊥) = λ b. not-loose (and_left (not_loose u) (shape u) h.shaped) (begins u stands 123 b) in
    begun (arr u) s p e is_arr i.byte refl q (inl (record { element = u; is = refl; other = other; stands = stands }))
begins (dict in_array k u) {s} {p} {e} h n q =
    let i = spelled-head h.spelled in
    let j = spelled-head i.rest in
    let two : p + 1 + 1 ≡ p + 2 = omega arith in
    let stands : EntryAt k u s (p + 2) e = record { spelled = rw two at j.rest; key = and_left (is_key k) (shape u) h.shaped; shaped = and_right (is_key k) (shape u) h.shaped } in
    begun (dict in_array k u) s p e is_arr i.byte refl q (inr (record { key = k; value = u; is = refl; brace = j.byte; stands = stands }))
begins (dict loose k u) {s} {p} {e} h n q =
    let i = spelled-head h.spelled in
    let stands : EntryAt k u s (p + 1) e = record { spelled = i.rest; key = and_left (is_key k) (shape u) h.shaped; shaped = and_right (is_key k) (shape u) h.shaped } in
    begun (dict loose k u) s p e is_curl i.byte refl q (record { key = k; value = u; is = refl; stands = stands })
begins (struct fs) {s} {p} {e} h n q =
    let i = spelled-head h.spelled in
    let spelled : Spelled (spell_all (list_of fs) ++ 41 ∷ []) s (p + 1) e = subst (λ (l : List ℕ). Spelled (l ++ 41 ∷ []) s (p + 1) e) (spells-list fs) i.rest in
    begun (struct fs) s p e is_open i.byte refl q (record { fields = fs; is = refl; stands = record { spelled = spelled; shaped = shapes-list fs h.shaped } })

module _ {t : Ty} {s : List ℕ} {p e : ℕ} (h : TypeAt t s p e) where
  pub is-variant : get_or s p 0 ≡ 118 → IsVariant t p e
  unfolding find
  is-variant q = begins t h 118 q

  pub is-struct : get_or s p 0 ≡ 40 → IsStruct t s p e
  unfolding find
  is-struct q = begins t h 40 q

  pub is-loose : get_or s p 0 ≡ 123 → IsLoose t s p e
  unfolding find
  is-loose q = begins t h 123 q

  pub is-array : get_or s p 0 ≡ 97 → (get_or s (p + 1) 0 ≡ 123 → ⊥) → IsArray t s p e
  unfolding find
  is-array q n = elim (begins t h 97 q) [ inl a ↦ a | inr d ↦ absurd (n d.brace) ]

  pub is-dict : get_or s p 0 ≡ 97 → get_or s (p + 1) 0 ≡ 123 → IsDict t s p e
  unfolding find
  is-dict q b = elim (begins t h 97 q) [ inl a ↦ absurd (a.other b) | inr d ↦ d ]

  -- a closing bracket begins no type
  pub not-bracket : get_or s p 0 ≡ 41 → ⊥
  unfolding find
  not-bracket q = begins t h 41 q

pub is_base_lem : {t : Ty} {s : List ℕ} {p e : ℕ} → TypeAt t s p e
    → (get_or s p 0 ≡ 97 → ⊥) → (get_or s p 0 ≡ 40 → ⊥) → (get_or s p 0 ≡ 123 → ⊥) → (get_or s p 0 ≡ 118 → ⊥) → IsBase t s p e
unfolding spell
is_base_lem {t = base c} h a b e d = let l = spelled-last h.spelled in record { of = c; is = refl; byte = l.byte; ends = l.ends }
is_base_lem {t = arr u} h a b c d = absurd (a (spelled-head h.spelled).byte)
is_base_lem {t = dict in_array k u} h a b c d = absurd (a (spelled-head h.spelled).byte)
is_base_lem {t = dict loose k u} h a b c d = absurd (c (spelled-head h.spelled).byte)
is_base_lem {t = struct fs} h a b c d = absurd (b (spelled-head h.spelled).byte)
is_base_lem {t = variant} h a b c d = absurd (d (spelled-head h.spelled).byte)

-- the same where the byte is known to be a basic type's
pub is-base-of : {t : Ty} {s : List ℕ} {p e : ℕ} → TypeAt t s p e → (c : Base) → get_or s p 0 ≡ code c → (t ≡ base c) × (e ≡ p + 1)
is-base-of {t} {s} {p} {e} h c q = subst (λ (k : Tok). Begins k t s p e) (find-base c) (begins t h (code c) q)

-- basic types with one code are one
pub same_code : (c d : Base) → code c ≡ code d → c ≡ d
same_code c d q = let z : is_base c ≡ is_base d = sym (find-base c) ∙ ap (find toks) q ∙ find-base d in cc

-- A struct's fields that are left
pub record IsNone (ts : List Ty) (p e : ℕ) : Type 0 where
  pub is : ts ≡ []
  pub ends : e ≡ p + 1

pub record IsMore (ts : List Ty) (s : List ℕ) (p e : ℕ) : Type 0 where
  pub first : Ty
  pub others : List Ty
  pub middle : ℕ
  pub is : ts ≡ first ∷ others
  pub here : TypeAt first s p middle
  pub rest : FieldsAt others s middle e

more-at : (u : Ty) (us : List Ty) {s : List ℕ} {p e : ℕ} → FieldsAt (u ∷ us) s p e → IsMore (u ∷ us) s p e
unfolding spell_all shape_all
more-at u us {s} {p} {e} h =
    let i = spelled-split (spell u) (subst (λ (l : List ℕ). Spelled l s p e) (append_assoc (spell u) (spell_all us) (41 ∷ [])) h.spelled) in
    record {
      first = u;
      others = us;
      middle = i.middle;
      is = refl;
      here = record { spelled = i.left; shaped = and_left (shape u) (shape_all us) h.shaped };
      rest = record { spelled = i.right; shaped = and_right (shape u) (shape_all us) h.shaped };
    }

pub is_none : {ts : List Ty} {s : List ℕ} {p e : ℕ} → FieldsAt ts s p e → get_or s p 0 ≡ 41 → IsNone ts p e
unfolding spell_all
is_none {ts = []} h q = record { is = refl; ends = (spelled-last h.spelled).ends }
is_none {ts = u ∷ us} h q = absurd (not-bracket (more-at u us h).here q)

pub is-more : {ts : List Ty} {s : List ℕ} {p e : ℕ} → FieldsAt ts s p e → (get_or s p 0 ≡ 41 → ⊥) → IsMore ts s p e
unfolding spell_all
is-more {ts = []} h n = absurd (n (spelled-last h.spelled).byte)
is-more {ts = u ∷ us} h n = more-at u us h

-- a struct has a field
pub list_of-some : (fs : Tys) → list_of fs ≡ [] → ⊥
list_of-some (one u) q = let z : ◌≡◌ {A = ℕ} 0 1 = cc in omega arith
list_of-some (more u fs) q = let z : ◌≡◌ {A = ℕ} 0 1 = cc in omega arith

-- A walk from a place at which some type stands to the next such place
pub start : {s : List ℕ} {p : ℕ} → Typed s p → p < length s
start h = (lies h.stands).start

pub start-entry : {s : List ℕ} {p : ℕ} → EntryTyped s p → (p < length s) × (p + 1 < length s)
start-entry h = let l = lies-entry h.stands in (l.start, l.second)

pub go-array : {s : List ℕ} {p : ℕ} → Typed s p → get_or s p 0 ≡ 97 → (get_or s (p + 1) 0 ≡ 123 → ⊥) → Typed s (p + 1)
go-array h q n = let v = is-array h.stands q n in record { ty = v.element; next = h.next; stands = v.stands }

pub go-dict : {s : List ℕ} {p : ℕ} → Typed s p → get_or s p 0 ≡ 97 → get_or s (p + 1) 0 ≡ 123 → EntryTyped s (p + 2)
go-dict h q b = let v = is-dict h.stands q b in record { key = v.key; ty = v.value; next = h.next; stands = v.stands }

pub go-loose : {s : List ℕ} {p : ℕ} → Typed s p → get_or s p 0 ≡ 123 → EntryTyped s (p + 1)
go-loose h q = let v = is-loose h.stands q in record { key = v.key; ty = v.value; next = h.next; stands = v.stands }

pub go-value : {s : List ℕ} {p : ℕ} → EntryTyped s p → Typed s (p + 1)
go-value h = let v = in_entry h.stands in record { ty = h.ty; next = v.middle; stands = v.stands }

-- A signature that is read as one type holds that type, whole
pub whole-type : {s : List ℕ} {t : Ty} → parse s ≡ types (t ∷ []) → TypeAt t s 0 (length s)
unfolding spell_all all_legal legal
whole-type {s} {t} h =
    let i = parse-sound s (t ∷ []) h in
    let q : s ≡ spell t = i.1 ∙ append-nil (spell t) in
    let same : take (length (spell t)) s ≡ spell t = rw q (take-length (spell t)) in
    record {
      spelled = record { same = same; ends = ap length q ∙ omega arith; within = omega arith };
      shaped = and_left (shape t) (nest t 0 0) (and_left (legal t) true i.0);
    }

-- No two types stand at one place. By the bytes that are left, and at each by the first byte, which decides for both
abbrev Same : ℕ → Type 0
Same n = (t u : Ty) (s : List ℕ) (p e f : ℕ) → e ≤ p + n → TypeAt t s p e → TypeAt u s p f → (t ≡ u) × (e ≡ f)

same_entries : (n : ℕ) → Same n → {k j : Base} {t u : Ty} {s : List ℕ} {p e f : ℕ} → e ≤ p + n → EntryAt k t s p e → EntryAt j u s p f → (k ≡ j) × (t ≡ u) × (e ≡ f)
same_entries n r {k} {j} {t} {u} {s} {p} l h g =
    let a = in_entry h in
    let b = in_entry g in
    let i = r t u s (p + 1) a.middle b.middle (omega (arith, a.ends)) a.stands b.stands in
    (same_code k j (sym a.byte ∙ b.byte), i.0, omega (arith, a.ends, b.ends, i.1))

same-fields : (n : ℕ) → Same n → (ts : List Ty) {us : List Ty} {s : List ℕ} {p e f : ℕ} → e ≤ p + n → FieldsAt ts s p e → FieldsAt us s p f → (ts ≡ us) × (e ≡ f)
unfolding spell_all more-at
same-fields n r [] l h g =
    let a = spelled-last h.spelled in
    let b = is_none g a.byte in
    (sym b.is, omega (arith, a.ends, b.ends))
same-fields n r (t ∷ ts) {us} {s} {p} {e} {f} l h g =
    let a = more-at t ts h in
    let b = is-more g (not-bracket a.here) in
    let past = (lies a.here).past in
    let end = (lies-fields a.rest).past in
    let i = r a.first b.first s p a.middle b.middle (omega arith) a.here b.here in
    let j = same-fields n r ts (omega arith) a.rest (subst (λ (m : ℕ). FieldsAt b.others s m f) (sym i.1) b.rest) in
    (a.is ∙ cc, j.1)

list_of-same : (fs gs : Tys) → list_of fs ≡ list_of gs → fs ≡ gs
list_of-same (one t) (one u) q = cc
list_of-same (one t) (more u gs) q = absurd (list_of-some gs (cc))
list_of-same (more t fs) (one u) q = absurd (list_of-some fs (cc))
list_of-same (more t fs) (more u gs) q = let i = list_of-same fs gs (cc) in cc

same-arrays : (n : ℕ) → Same n → {t u : Ty} {s : List ℕ} {p e f : ℕ} → e ≤ p + 1 + n → IsArray t s p e ⊎ IsDict t s p e → IsArray u s p f ⊎ IsDict u s p f → (t ≡ u) × (e ≡ f)
same-arrays n r {s = s} {p} {e} {f} l (inl a) (inl b) =
    let i = r a.element b.element s (p + 1) e f l a.stands b.stands in (a.is ∙ ap arr i.0 ∙ sym b.is, i.1)
same-arrays n r l (inl a) (inr b) = absurd (a.other b.brace)
same-arrays n r l (inr a) (inl b) = absurd (b.other a.brace)
same-arrays n r {p = p} l (inr a) (inr b) = let i = same_entries n r (omega arith) a.stands b.stands in (cc (a.is, b.is, i.0, i.1), i.2)

same-begun : (n : ℕ) → Same n → (k : Tok) (t u : Ty) (s : List ℕ) (p e f : ℕ) → e ≤ p + 1 + n → Begins k t s p e → Begins k u s p f → (t ≡ u) × (e ≡ f)
same-begun n r (is_base c) t u s p e f l a b = (a.0 ∙ sym b.0, a.1 ∙ sym b.1)
same-begun n r is_arr t u s p e f l a b = same-arrays n r l a b
same-begun n r is_var t u s p e f l a b = (a.is ∙ sym b.is, a.ends ∙ sym b.ends)
same-begun n r is_open t u s p e f l a b =
    let i = same-fields n r (list_of a.fields) l a.stands b.stands in
    (a.is ∙ ap struct (list_of-same a.fields b.fields i.0) ∙ sym b.is, i.1)
same-begun n r is_close t u s p e f l a b = absurd a
same-begun n r is_curl t u s p e f l a b = let i = same_entries n r l a.stands b.stands in (cc (a.is, b.is, i.0, i.1), i.2)
same-begun n r is_uncurl t u s p e f l a b = absurd a
same-begun n r is_bad t u s p e f l a b = absurd a

same-below : (n : ℕ) → Same n
same-below zero t u s p e f l h g = absurd (omega (arith, (lies h).past))
same-below (suc n) t u s p e f l h g =
    same-begun n (same-below n) (find toks (get_or s p 0)) t u s p e f (omega arith) (begins t h (get_or s p 0) refl) (begins u g (get_or s p 0) refl)

pub unique : {t u : Ty} {s : List ℕ} {p e f : ℕ} → TypeAt t s p e → TypeAt u s p f → (t ≡ u) × (e ≡ f)
unique {t} {u} {s} {p} {e} {f} h g = same-below e t u s p e f (omega arith) h g
