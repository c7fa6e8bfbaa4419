-- Types by their places in a signature: what code that walks over signature bytes says of them.
use Rattle.std.specs.Prelude.{ℕ, ◌+◌, ◌≤◌, Bool, true, ◌&&◌, List, [], ◌∷◌, ◌++◌, ◌≡◌, length, take, drop, T}
use Rattle.meaning.specs.Types.{Base, Ty, Tys, one, more}
use Rattle.meaning.specs.Signature.{code, is_key, spell, spell_all, shape}

-- the bytes xs stand in s from p on, and e is the place after them
pub record Spelled (xs s : List ℕ) (p e : ℕ) : Type 0 where
  pub same : take (length xs) (drop p s) ≡ xs
  pub ends : e ≡ p + length xs
  pub within : e ≤ length s

-- the type t stands in the signature s from p on, and e is the place after it
pub record TypeAt (t : Ty) (s : List ℕ) (p e : ℕ) : Type 0 where
  pub spelled : Spelled (spell t) s p e
  pub shaped : T (shape t)

-- some type stands there
pub record Typed (s : List ℕ) (p : ℕ) : Type 0 where
  pub ty : Ty
  pub next : ℕ
  pub stands : TypeAt ty s p next

unfoldable pub shape_all : List Ty → Bool
shape_all [] = true
shape_all (t ∷ ts) = shape t && shape_all ts

-- a struct's field types as a list, since what is left of them may be none
abbrev pub list_of : Tys → List Ty
list_of (one e) = e ∷ []
list_of (more e fs) = e ∷ list_of fs

-- the types of a struct's fields that are left from p on, with the bracket that ends them, and e is the place after that
pub record FieldsAt (ts : List Ty) (s : List ℕ) (p e : ℕ) : Type 0 where
  pub spelled : Spelled (spell_all ts ++ 41 ∷ []) s p e
  pub shaped : T (shape_all ts)

-- a dict's key and the type of its values stand from p on, with the bracket that ends them, and e is the place after that
pub record EntryAt (k : Base) (t : Ty) (s : List ℕ) (p e : ℕ) : Type 0 where
  pub spelled : Spelled (code k ∷ spell t ++ 125 ∷ []) s p e
  pub key : T (is_key k)
  pub shaped : T (shape t)

pub record EntryTyped (s : List ℕ) (p : ℕ) : Type 0 where
  pub key : Base
  pub ty : Ty
  pub next : ℕ
  pub stands : EntryAt key ty s p next
