-- What reading a header hands out, made from the message's parts, and the lookup of a text: document 01, port order 5 and 6.
use Rattle.std.specs.Prelude.{ℕ, ◌+◌, ◌-◌, Bool, true, false, ◌||◌, List, [], ◌∷◌, length, eqb, Result, Ok, Err}
use Rattle.meaning.specs.declared.Order.{Order}
use Rattle.meaning.specs.declared.Entry.{Entry}
use Rattle.meaning.specs.declared.Entry.TheVariants.{Absent, Number, Text}
use Rattle.meaning.specs.declared.Header.{Header}
use Rattle.meaning.specs.declared.Fields.{Fields}
use Rattle.meaning.specs.declared.Refusal.{Refusal}
use Rattle.meaning.specs.Reader.{Res, got, fault}
use Rattle.meaning.specs.Types.{fix, str, path, sig, base, arr, dict, struct, variant, Var}
use Rattle.meaning.specs.Message.{Field, enc_field, text, Message, body_at, body_of}
use Rattle.meaning.specs.ReadMessage.{read_message}

-- a text's entry: its bytes are the last of a field that ends at e, but for the zero after them
abbrev pub text_entry : ℕ → List ℕ → Entry
text_entry e s = Text (record { 0 = e - 1 - length s }) (record { 0 = length s })

-- "each absent, a number, or place and length": what the header keeps of a field that ends at e
abbrev pub entry_as : ℕ → Var 16 → Entry
entry_as e (base (fix c), v) = Number v
entry_as e (base str, v) = text_entry e v
entry_as e (base path, v) = text_entry e v
entry_as e (base sig, v) = text_entry e v
entry_as e (arr t, v) = Absent
entry_as e (dict w k t, v) = Absent
entry_as e (struct fs, v) = Absent
entry_as e (variant, v) = Absent

-- where the field f that begins at off ends
abbrev pub end_of : Order → Field → ℕ → ℕ
end_of o f off = off + length (enc_field o f off)

-- the entry of the first field with the code, among fields that begin at off
unfoldable pub entry : Order → ℕ → List Field → ℕ → Entry
entry o c [] off = Absent
entry o c (f ∷ fs) off = elim (eqb f.0 c) [ true ↦ entry_as (end_of o f off) f.1 | false ↦ entry o c fs (end_of o f off) ]

-- "one record of nine entries", each by its code
abbrev pub fields_by : (ℕ → Entry) → Fields
fields_by e = record {
  object = e 1;
  interface = e 2;
  member = e 3;
  error_name = e 4;
  response_serial = e 5;
  destination = e 6;
  sender = e 7;
  signature = e 8;
  num_fds = e 9;
}

-- the nine entries of fields that begin at off
abbrev pub fields_from : Order → List Field → ℕ → Fields
fields_from o fs off = fields_by (λ c. entry o c fs off)

-- the fields of a message begin at byte 16
abbrev pub fields_of : Message → Fields
fields_of m = fields_from m.fixed.order m.fields 16

-- the header of a message of n bytes
abbrev pub header_of : Message → ℕ → Header
header_of m n = record {
  order = m.fixed.order;
  kind = m.fixed.kind;
  flags = m.fixed.flags;
  version = m.fixed.version;
  serial = m.fixed.serial;
  length = record { 0 = n };
  body = record { 0 = body_at m.fixed.order m.fields };
  body_length = record { 0 = length (body_of m) };
  fields = fields_of m;
}

abbrev pub header_from : Res Message → Result Header Refusal
header_from (got m n) = Ok (header_of m n)
header_from (fault x) = Err x

-- reading a header: a message that is refused has none, and gets the check's refusal
unfoldable pub read_header : List ℕ → Result Header Refusal
read_header b = header_from (read_message b 0)

-- the codes of the fields that hold a text: "a code outside 1 2 3 4 6 7 8" has none
abbrev pub holds_text : ℕ → Bool
holds_text c = eqb c 1 || eqb c 2 || eqb c 3 || eqb c 4 || eqb c 6 || eqb c 7 || eqb c 8

abbrev pub text_from : List ℕ → ℕ → Res Message → List ℕ
text_from d c (got m e) = text d c m.fields
text_from d c (fault x) = d

-- "hands back the field's text inside the message, or the caller's fallback bytes when there is none: also for a refused message"
unfoldable pub lookup : List ℕ → ℕ → List ℕ → List ℕ
lookup b c d = elim (holds_text c) [ true ↦ text_from d c (read_message b 0) | false ↦ d ]
