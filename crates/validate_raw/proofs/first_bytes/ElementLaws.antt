-- What the first byte of an element's type says of an array: the elements' alignment, and whether their number is all that is tested.
use Prim.Native.Nat.{ℕ}
use native.Mathlib.Omega.{arith}
use mathlib.Core.Bool.{Bool, true, false, ◌||◌}
use mathlib.Core.List.{List, [], ◌∷◌, ◌++◌}
use mathlib.Core.Path.{◌≡◌, refl, ap, sym, subst, ◌∙◌}
use lib.ListN.{get_or}
use lib.Dec.{eqb, T}
use borrow.Author.Tests.{eq-eqb, ne_eqb, eqb-true}
use Rattle.meaning.specs.Types.{Fix, byte, bool, i16, u16, i32, u32, i64, u64, dbl, fd, Base, fix, str, path, sig}
use Rattle.meaning.specs.Types.{in_array, loose, Ty, base, arr, dict, struct, variant, size}
use Rattle.meaning.specs.Signature.{is_base, is_curl, toks, code, spell, find}
use Rattle.meaning.specs.Text.{pick}
use Rattle.meaning.specs.Writers.{is_alignment}
use Rattle.meaning.specs.ReadValue.{valid}
use Rattle.meaning.specs.Places.{Spelled, TypeAt}
use Rattle.meaning.proofs.PlaceLaws.{spelled-head}
use Rattle.types.specs.Codes.{align_code, size_code}
use Rattle.types.proofs.CodeLaws.{align-base, align-array, align-struct, align-variant, is-alignment}
use Rattle.meaning.proofs.SignatureLaws.{find-base}
use Rattle.validate_raw.specs.FirstBytes.{whole_code, composite, element_align}
use Rattle.validate_raw.specs.Items.{Item, single, pair, item_of, align_item, whole_item}

-- the first byte of a type's spelling
abbrev first_of : Ty → ℕ
first_of t = get_or (spell t) 0 0

begins : (t : Ty) → (xs : List ℕ) × (spell t ≡ first_of t ∷ xs)
unfolding spell
begins (base c) = ([], refl)
begins (arr e) = (spell e, refl)
begins (dict in_array k e) = (123 ∷ (code k ∷ (spell e ++ (125 ∷ []))), refl)
begins (dict loose k e) = (code k ∷ (spell e ++ (125 ∷ [])), refl)
begins (struct fs) = (Rattle.meaning.specs.Signature.spells fs ++ (41 ∷ []), refl)
begins variant = ([], refl)

pub first_byte : {t : Ty} {s : List ℕ} {p e : ℕ} → TypeAt t s p e → get_or s p 0 ≡ first_of t
first_byte {t} {s} {p} {e} h =
    let b = begins t in
    (spelled-head (subst (λ (xs : List ℕ). Spelled xs s p e) b.1 h.spelled)).byte

-- no basic type begins with {
base-brace : (c : Base) → eqb (code c) 123 ≡ false
unfolding find
base-brace c = ne_eqb (code c) 123 (λ q. let z : is_base c ≡ is_curl = sym (find-base c) ∙ ap (find toks) q in let y : ◌≡◌ {A = ℕ} 0 1 = cc in omega arith)

align-first-code : (t : Ty) → element_align (first_of t) ≡ align_item (item_of t)
unfolding spell element_align
align-first-code (base c) = ap (λ (x : Bool). pick x 8 (align_code (code c))) (base-brace c) ∙ align-base c
align-first-code (arr e) = align-array
align-first-code (dict in_array k e) = align-array
align-first-code (dict loose k e) = refl
align-first-code (struct fs) = align-struct
align-first-code variant = align-variant

item-alignment : (i : Item) → T (is_alignment (align_item i))
item-alignment (single t) = is-alignment t
item-alignment (pair k t) = tt

module _ {t : Ty} {s : List ℕ} {p e : ℕ} (h : TypeAt t s p e) where
  pub element-align : element_align (get_or s p 0) ≡ align_item (item_of t)
  element-align = ap element_align (first_byte h) ∙ align-first-code t

  pub element-alignment : T (is_alignment (element_align (get_or s p 0)))
  element-alignment = rw element-align (item-alignment (item_of t))

-- an array's elements of this type are tested as a whole, by their size w, or one by one, as entries are
pub data Tested (t : Ty) (w : ℕ) : Type 0 where
  singly : w ≡ 0 → whole_item (item_of t) ≡ 1 → Tested t w
  together : (c : Fix) → t ≡ base (fix c) → w ≡ size c → whole_item (item_of t) ≡ size c → ((x : ℕ) → T (valid c x)) → Tested t w

tested-by : (t : Ty) → Tested t (whole_code (first_of t))
unfolding spell whole_code size_code find
tested-by (base (fix byte)) = together byte refl refl refl (λ x. tt)
tested-by (base (fix bool)) = singly refl refl
tested-by (base (fix i16)) = together i16 refl refl refl (λ x. tt)
tested-by (base (fix u16)) = together u16 refl refl refl (λ x. tt)
tested-by (base (fix i32)) = singly refl refl
tested-by (base (fix u32)) = together u32 refl refl refl (λ x. tt)
tested-by (base (fix i64)) = together i64 refl refl refl (λ x. tt)
tested-by (base (fix u64)) = together u64 refl refl refl (λ x. tt)
tested-by (base (fix dbl)) = together dbl refl refl refl (λ x. tt)
tested-by (base (fix fd)) = together fd refl refl refl (λ x. tt)
tested-by (base str) = singly refl refl
tested-by (base path) = singly refl refl
tested-by (base sig) = singly refl refl
tested-by (arr e) = singly refl refl
tested-by (dict in_array k e) = singly refl refl
tested-by (dict loose k e) = singly refl refl
tested-by (struct fs) = singly refl refl
tested-by variant = singly refl refl

pub tested : {t : Ty} {s : List ℕ} {p e : ℕ} → TypeAt t s p e → Tested t (whole_code (get_or s p 0))
tested {t} h = subst (λ (k : ℕ). Tested t (whole_code k)) (sym (first_byte h)) (tested-by t)

-- a code that begins no composite type is none of the four
pub basic : {k : ℕ} → composite k ≡ false → (k ≡ 97 → ⊥) × (k ≡ 40 → ⊥) × (k ≡ 123 → ⊥) × (k ≡ 118 → ⊥)
unfolding composite
basic {k} h = (
  λ e. no (rw (eq-eqb k 97 e) at h),
  λ e. no (second (eqb k 97) (eqb k 40) _ (eq-eqb k 40 e) h),
  λ e. no (third (eqb k 97) (eqb k 40) (eqb k 123) _ (eq-eqb k 123 e) h),
  λ e. no (fourth (eqb k 97) (eqb k 40) (eqb k 123) (eqb k 118) (eq-eqb k 118 e) h),
)
  where
    no : true ≡ false → ⊥
    no z = subst T z tt

    second : (a b c : Bool) → b ≡ true → (a || (b || c)) ≡ false → true ≡ false
    second true b c e z = z
    second false true c e z = z
    second false false c e z = sym e

    third : (a b c d : Bool) → c ≡ true → (a || (b || (c || d))) ≡ false → true ≡ false
    third true b c d e z = z
    third false true c d e z = z
    third false false true d e z = z
    third false false false d e z = sym e

    fourth : (a b c d : Bool) → d ≡ true → (a || (b || (c || d))) ≡ false → true ≡ false
    fourth true b c d e z = z
    fourth false true c d e z = z
    fourth false false true d e z = z
    fourth false false false d e z = sym e ∙ z

-- a code that begins a composite type, and neither a struct nor a variant, is an array's or that of a dict alone
pub data Holding (k : ℕ) : Type 0 where
  array : k ≡ 97 → Holding k
  alone : (k ≡ 97 → ⊥) → k ≡ 123 → Holding k

pub holding : {k : ℕ} → composite k ≡ true → (k ≡ 40 → ⊥) → (k ≡ 118 → ⊥) → Holding k
unfolding composite
holding {k} h b d = go (eqb k 97) refl
  where
    go : (x : Bool) → eqb k 97 ≡ x → Holding k
    go true e = array (eqb-true k 97 e)
    go false e =
        let no : k ≡ 97 → ⊥ = λ q. not-both (eqb k 97) (eq-eqb k 97 q) e in
        let z : (eqb k 123 || false) ≡ true = rw (e, ne_eqb k 40 b, ne_eqb k 118 d) at h in
        alone no (eqb-true k 123 (or-false (eqb k 123) z))
      where
        not-both : (x : Bool) → x ≡ true → x ≡ false → ⊥
        not-both x p q = subst T (sym p ∙ q) tt

        or-false : (x : Bool) → (x || false) ≡ true → x ≡ true
        or-false true z = refl
        or-false false z = z
