-- What the functions of the walk answer, in terms of the readers of the meaning crate. A walk that only checks hands on places: past the type in
-- the signature, and past the value in the bytes.
use Rattle.std.specs.Prelude.{ℕ, true, List, [], ◌∷◌, ◌≡◌, get_or, Result, Ok, Err}
use Rattle.meaning.specs.declared.Order.{Order}
use Rattle.validate_raw.specs.declared.walk.Spot.{Spot}
use Rattle.meaning.specs.declared.Refusal.{Refusal}
use Rattle.meaning.specs.declared.Place.{Place}
use Rattle.meaning.specs.Types.{Base, Ty, Raw, Of}
use Rattle.meaning.specs.Reader.{Res, got, fault, R, ◌>>◌, reached_of}
use Rattle.meaning.specs.ReadValue.{padding, base_r, pair_r, read}
use Rattle.meaning.specs.Places.{Typed, FieldsAt}
use Rattle.validate_raw.specs.FirstBytes.{composite}
use Rattle.validate_raw.specs.Items.{Item, single, pair}

-- what a walk answers for a reader, where the type ends at the place n of the signature
abbrev pub walked_of : {A : Type 0} → ℕ → Res A → Result Spot Refusal
walked_of n (got v e) = Ok (record { sig = record { 0 = n }; buf = record { 0 = e } })
walked_of n (fault x) = Err x

-- the same from where a reader gets to
abbrev pub walked_to : ℕ → Result Place Refusal → Result Spot Refusal
walked_to n (Ok p) = Ok (record { sig = record { 0 = n }; buf = p })
walked_to n (Err x) = Err x

-- an entry of a dict, with 8 before it
unfoldable pub entry_r : {W : Type 0} → Order → R W → (k : Base) (t : Ty) → R (Raw k × Of t W)
entry_r o read_w k t = padding 8 >> pair_r (base_r o k) (read o read_w t)

-- an element of an array or an entry of a dict, and its reader
abbrev pub Held : Item → Type 0 → Type 0
Held (single t) W = Of t W
Held (pair k t) W = Raw k × Of t W

unfoldable pub item_r : {W : Type 0} → Order → R W → (i : Item) → R (Held i W)
item_r o read_w (single t) = read o read_w t
item_r o read_w (pair k t) = entry_r o read_w k t

-- one thing after another
abbrev pub after : Result Place Refusal → (ℕ → Result Place Refusal) → Result Place Refusal
after (Ok p) k = k p.0
after (Err x) k = Err x

-- where the fields of a struct that are left get to, one after the other
abbrev pub fields_to : {W : Type 0} → Order → R W → List Ty → List ℕ → ℕ → Result Place Refusal
fields_to o read_w [] b p = Ok (record { 0 = p })
fields_to o read_w (t ∷ ts) b p = after (reached_of (read o read_w t b p)) (λ q. fields_to o read_w ts b q)

-- some fields stand there, with the bracket that ends them
pub record FieldsTyped (s : List ℕ) (p : ℕ) : Type 0 where
  pub tys : List Ty
  pub next : ℕ
  pub stands : FieldsAt tys s p next

-- a type stands there that is an array or a dict
pub record HoldsItems (s : List ℕ) (p : ℕ) : Type 0 where
  pub typed : Typed s p
  pub composed : composite (get_or s p 0) ≡ true
  pub no-struct : get_or s p 0 ≡ 40 → ⊥
  pub no_variant : get_or s p 0 ≡ 118 → ⊥
