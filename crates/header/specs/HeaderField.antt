-- What the functions that read a header field answer, in terms of the readers of the meaning crate: the header keeps of a field what an entry holds.
use Rattle.std.specs.Prelude.{ℕ, ◌+◌, ◌≤◌, ◌<◌, List, ◌≡◌, length, take, drop, Some, None, Result, Ok, Err}
use Rattle.meaning.specs.Types.{Base, Ty, base, Raw, Var}
use Rattle.meaning.specs.Signature.{code, parse}
use Rattle.meaning.specs.Places.{TypeAt}
use Rattle.meaning.specs.Reader.{Res, got, fault, R, ◌>>=◌}
use Rattle.meaning.specs.ReadValue.{read_sig, bare_r}
use Rattle.meaning.specs.Message.{Wants, nothing, exactly, anything, wants, Field}
use Rattle.meaning.specs.ReadMessage.{one_type}
use Rattle.meaning.specs.Header.{entry_as}
use Rattle.meaning.specs.declared.Order.{Order}
use Rattle.meaning.specs.declared.Entry.{Entry}
use Rattle.meaning.specs.declared.Part.{Part}
use Rattle.meaning.specs.declared.Refusal.{Refusal}
use Rattle.header.specs.declared.header_field.FieldEntry.{FieldEntry}

-- a field's type, whatever its code
unfoldable pub one_type_r : Order → R Ty
one_type_r o = read_sig o >>= λ s. one_type (parse s)

-- where its signature begins and how long it is, and that it spells the type that the reader finds
unfoldable pub OneIs : Result Part Refusal → Order → List ℕ → ℕ → Type 0
OneIs (Ok part) o b off =
    (off < part.0.0) × (part.0.0 + part.1.0 < length b)
    × ((t : Ty) × (one_type_r o b off ≡ got t (part.0.0 + part.1.0 + 1)) × TypeAt t (take part.1.0 (drop part.0.0 b)) 0 part.1.0)
OneIs (Err x) o b off = one_type_r o b off ≡ fault x

-- a known code, and the type that it asks for
pub record Known (c k : ℕ) : Type 0 where
  pub of : Base
  pub asks : wants c ≡ exactly of
  pub is : k ≡ code of

-- its value stands from at to next
pub record Stands (o : Order) (k : ℕ) (buf : List ℕ) (at next c : ℕ) (b : Base) (v : Raw b) : Type 0 where
  pub asks : wants c ≡ exactly b
  pub is : k ≡ code b
  pub reads : bare_r o b buf at ≡ got v next

pub record Stood (o : Order) (k : ℕ) (buf : List ℕ) (at next : ℕ) : Type 0 where
  pub for : ℕ
  pub of : Base
  pub value : Raw of
  pub stands : Stands o k buf at next for of value

-- a field that ends at e: its code, and what the header keeps of it
abbrev pub read_as : ℕ → ℕ → Entry → Result FieldEntry Refusal
read_as e c n = Ok (record { next = record { 0 = e }; kept = Some (record { code = c; entry = n }) })

-- nothing is kept of a field whose code is not known
abbrev pub passed_by : ℕ → Result FieldEntry Refusal
passed_by e = Ok (record { next = record { 0 = e }; kept = None })

abbrev pub kept_as : Wants → ℕ → ℕ → Var 16 → Result FieldEntry Refusal
kept_as nothing c e w = passed_by e
kept_as (exactly k) c e w = read_as e c (entry_as e w)
kept_as anything c e w = passed_by e

abbrev pub known_to : ℕ → (k : Base) → Res (Raw k) → Result FieldEntry Refusal
known_to c k (got v e) = read_as e c (entry_as e (base k, v))
known_to c k (fault x) = Err x

abbrev pub content_to : ℕ → Res (Var 16) → Result FieldEntry Refusal
content_to c (got w e) = kept_as (wants c) c e w
content_to c (fault x) = Err x

abbrev pub field_to : Res Field → Result FieldEntry Refusal
field_to (got f e) = kept_as (wants f.0) f.0 e f.1
field_to (fault x) = Err x
