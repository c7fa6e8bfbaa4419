-- What the functions that read a message after its field table ask for and answer, in terms of the readers of the meaning crate.
use Rattle.std.specs.Prelude.{ℕ, List, ◌≡◌, length, take, drop, T}
use Rattle.meaning.specs.Types.{Ty}
use Rattle.meaning.specs.Signature.{parse, types, spell_all}
use Rattle.meaning.specs.Places.{Spelled, shape_all}
use Rattle.meaning.specs.Reader.{got}
use Rattle.meaning.specs.Message.{Field, complete, Fixed}
use Rattle.meaning.specs.ReadMessage.{fixed_r, table_r}
use Rattle.meaning.specs.declared.Entry.{Entry}
use Rattle.meaning.specs.declared.Entry.TheVariants.{Absent, Number, Text}
use Rattle.meaning.specs.declared.Fields.{Fields}
use Rattle.header.specs.declared.fixed_header.Start.{Start}
use Rattle.header.specs.FixedHeader.{start_of}
use Rattle.meaning.specs.Header.{fields_from}
use Rattle.meaning.specs.declared.Part.{Part}

-- a signature of types
pub record Types (s : List ℕ) : Type 0 where
  pub tys : List Ty
  pub parsed : parse s ≡ types tys

-- the types that are left from p on, up to the signature's end
pub record TypesAt (ts : List Ty) (s : List ℕ) (p : ℕ) : Type 0 where
  pub spelled : Spelled (spell_all ts) s p (length s)
  pub shaped : T (shape_all ts)

-- the bytes that an entry stands for: "the field's text inside the message, or the caller's fallback bytes when there is none"
abbrev pub cut_of : List ℕ → List ℕ → Entry → List ℕ
cut_of d b Absent = d
cut_of d b (Number n) = d
cut_of d b (Text p l) = take l.0 (drop p.0 b)

-- where a text begins, and how long it is; nothing for what is no text
abbrev pub part_of : Entry → Part
part_of Absent = record { 0 = record { 0 = 0 }; 1 = record { 0 = 0 } }
part_of (Number n) = record { 0 = record { 0 = 0 }; 1 = record { 0 = 0 } }
part_of (Text p l) = record { 0 = p; 1 = l }

-- a message up to the end of its field table, with what the header keeps of it
pub record Held (b : List ℕ) (start : Start) (fields : Fields) (end : ℕ) : Type 0 where
  pub head : Fixed × ℕ
  pub list : List Field
  pub begins : fixed_r b 0 ≡ got head 12
  pub starts : start ≡ start_of head
  pub tabled : table_r head.0.order b 12 ≡ got list end
  pub whole : T (complete head.0.kind list)
  pub kept : fields ≡ fields_from head.0.order list 16
