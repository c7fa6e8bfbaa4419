-- What an array or a dict holds, by the place of its element: a dict in an array and one alone are walked over in one way.
use Prim.Native.Nat.{ℕ, ◌+◌, ◌≤◌}
use native.Mathlib.Omega.{arith}
use mathlib.Core.Bool.{Bool, true, false}
use mathlib.Core.List.{List}
use mathlib.Core.Path.{◌≡◌, refl, ap, sym, subst, ◌∙◌}
use lib.ListN.{get_or}
use lib.Dec.{T, eqb, eqb→eq}
use borrow.Author.Tests.{eq-eqb, ne_eqb}
use Rattle.meaning.specs.Types.{Base, Form, in_array, loose, Ty, base, arr, dict, struct, variant}
use Rattle.meaning.specs.Signature.{spell, shape}
use Rattle.meaning.specs.Places.{TypeAt, Typed}
use Rattle.meaning.proofs.Local.{both}
use Rattle.meaning.proofs.PlaceLaws.{spelled-head, is-array, is-dict, is-loose}
use Rattle.validate_raw.specs.FirstBytes.{element_place}
use Rattle.validate_raw.specs.Items.{single, pair, item_of}
use Rattle.validate_raw.proofs.first_bytes.ElementLaws.{Holding, array, alone}

-- t is an array or a dict of what u stands for
pub data Holds (t u : Ty) : Type 0 where
  elements : t ≡ arr u → item_of u ≡ single u → Holds t u
  entries : (f : Form) (k : Base) (v : Ty) → t ≡ dict f k v → item_of u ≡ pair k v → Holds t u

pub record ItemsAt (t : Ty) (s : List ℕ) (i e : ℕ) : Type 0 where
  pub of : Ty
  pub stands : TypeAt of s i e
  pub holds : Holds t of

-- what does not begin with { is an element
pub is-single : {u : Ty} {s : List ℕ} {p e : ℕ} → TypeAt u s p e → (get_or s p 0 ≡ 123 → ⊥) → item_of u ≡ single u
unfolding spell
is-single {u = base c} h n = refl
is-single {u = arr v} h n = refl
is-single {u = dict in_array k v} h n = refl
is-single {u = dict loose k v} h n = absurd (n (spelled-head h.spelled).byte)
is-single {u = struct fs} h n = refl
is-single {u = variant} h n = refl

-- the entry of a dict in an array stands after the first byte, spelled like a dict alone
entry_at : {k : Base} {v : Ty} {s : List ℕ} {p e : ℕ} → TypeAt (dict in_array k v) s p e → TypeAt (dict loose k v) s (p + 1) e
unfolding spell shape
entry_at h = record { spelled = (spelled-head h.spelled).rest; shaped = h.shaped }

module _ (s : List ℕ) (p : ℕ) where
  pub place-array : get_or s p 0 ≡ 97 → element_place s p ≡ p + 1
  unfolding element_place
  place-array q = simp (eq-eqb _ _ q)

  pub place_other : (get_or s p 0 ≡ 97 → ⊥) → element_place s p ≡ p
  unfolding element_place
  place_other q = simp (ne_eqb _ _ q)

module _ {t : Ty} {s : List ℕ} {p e : ℕ} (h : TypeAt t s p e) where
  after-code : get_or s p 0 ≡ 97 → (b : Bool) → eqb (get_or s (p + 1) 0) 123 ≡ b → ItemsAt t s (p + 1) e
  after-code q true z =
      let d = is-dict h q (eqb→eq (get_or s (p + 1) 0) 123 (subst T (sym z) tt)) in
      let y : TypeAt (dict in_array d.key d.value) s p e = subst (λ (x : Ty). TypeAt x s p e) d.is h in
      record { of = dict loose d.key d.value; stands = entry_at y; holds = entries in_array d.key d.value d.is refl }
  after-code q false z =
      let no : get_or s (p + 1) 0 ≡ 123 → ⊥ = λ y. both (eqb (get_or s (p + 1) 0) 123) (eq-eqb (get_or s (p + 1) 0) 123 y) z in
      let a = is-array h q no in
      record { of = a.element; stands = a.stands; holds = elements a.is (is-single a.stands no) }

  pub items_at : {i : ℕ} → i ≡ element_place s p → Holding (get_or s p 0) → ItemsAt t s i e
  items_at {i} k (array q) =
      subst (λ (x : ℕ). ItemsAt t s x e) (sym (k ∙ place-array s p q)) (after-code q (eqb (get_or s (p + 1) 0) 123) refl)
  items_at {i} k (alone n q) =
      let d = is-loose h q in
      let y : ItemsAt t s p e = record { of = t; stands = h; holds = entries loose d.key d.value d.is (ap item_of d.is) } in
      subst (λ (x : ℕ). ItemsAt t s x e) (sym (k ∙ place_other s p n)) y

-- some type stands where the element does, at the array's place or after it
pub items-typed : {s : List ℕ} {p i : ℕ} → Typed s p → i ≡ element_place s p → Holding (get_or s p 0) → Typed s i
items-typed y k q = let a = items_at y.stands k q in record { ty = a.of; next = y.next; stands = a.stands }

pub items-from : (s : List ℕ) (p : ℕ) {i : ℕ} → i ≡ element_place s p → Holding (get_or s p 0) → p ≤ i
items-from s p k (array q) = omega (arith, k, place-array s p q)
items-from s p k (alone n q) = omega (arith, k, place_other s p n)
