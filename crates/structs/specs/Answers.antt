-- What an exported function hands out, from the answers of the proved crates.
use Rattle.std.specs.Prelude.{ℕ, ◌-◌, ◌≤◌, Bool, true, false, Result, Ok, Err}
use Rattle.meaning.specs.declared.Order.{Order}
use Rattle.meaning.specs.declared.Order.TheVariants.{Little, Big}
use Rattle.meaning.specs.declared.Length.{Length}
use Rattle.meaning.specs.declared.Place.{Place}
use Rattle.meaning.specs.declared.Entry.{Entry}
use Rattle.meaning.specs.declared.Entry.TheVariants.{Absent, Number, Text}
use Rattle.meaning.specs.declared.Fields.{Fields}
use Rattle.meaning.specs.declared.Header.{Header}
use Rattle.meaning.specs.declared.Refusal.{Refusal}
use Rattle.meaning.specs.Faults.{number_of}
use Rattle.meaning.specs.Message.{kind_code}
use Rattle.structs.specs.declared.MtAnswer.{MtAnswer}
use Rattle.structs.specs.declared.MtEntry.{MtEntry}
use Rattle.structs.specs.declared.MtFields.{MtFields}
use Rattle.structs.specs.declared.MtHeader.{MtHeader}
use Rattle.structs.specs.declared.MtPart.{MtPart}

-- `bool big` is the byte order
abbrev pub order_of : Bool → Order
order_of true = Big
order_of false = Little

abbrev pub is_big : Order → Bool
is_big Little = false
is_big Big = true

-- "number 0 is acceptance (length counts)"
abbrev pub accepted : ℕ → MtAnswer
accepted n = record { number = 0; position = 0; length = n }

-- "else a refusal (position counts, length 0)"
abbrev pub refused : Refusal → MtAnswer
refused x = record { number = number_of x.fault; position = x.place.0; length = 0 }

abbrev pub answer_of : Result Length Refusal → MtAnswer
answer_of (Ok n) = accepted n.0
answer_of (Err x) = refused x

-- "(length: number of types)"
abbrev pub count_of : Result ℕ Refusal → MtAnswer
count_of (Ok n) = accepted n
count_of (Err x) = refused x

-- "(length: bytes written)": from the place on where the write began
abbrev pub written_of : ℕ → Result Place Refusal → MtAnswer
written_of from (Ok p) = accepted (p.0 - from)
written_of from (Err x) = refused x

-- a write ends at or behind the place where it began
abbrev pub Past : ℕ → Result Place Refusal → Type 0
Past from (Ok p) = from ≤ p.0
Past from (Err x) = Unit {0}

-- "entries of kind 0 absent / 1 number / 2 text, number or place, length"
abbrev pub entry_of : Entry → MtEntry
entry_of Absent = record { kind = 0; value = 0; length = 0 }
entry_of (Number n) = record { kind = 1; value = n; length = 0 }
entry_of (Text p l) = record { kind = 2; value = p.0; length = l.0 }

abbrev pub fields_of : Fields → MtFields
fields_of f = record {
  object = entry_of f.object;
  interface = entry_of f.interface;
  member = entry_of f.member;
  error_name = entry_of f.error_name;
  response_serial = entry_of f.response_serial;
  destination = entry_of f.destination;
  sender = entry_of f.sender;
  signature = entry_of f.signature;
  num_fds = entry_of f.num_fds;
}

abbrev pub no_fields : Fields
no_fields = record {
  object = Absent;
  interface = Absent;
  member = Absent;
  error_name = Absent;
  response_serial = Absent;
  destination = Absent;
  sender = Absent;
  signature = Absent;
  num_fds = Absent;
}

abbrev pub header_of : Header → MtHeader
header_of h = record {
  answer = accepted h.length.0;
  big = is_big h.order;
  kind = kind_code h.kind;
  flags = h.flags;
  version = h.version;
  serial = h.serial;
  body_place = h.body.0;
  body_length = h.body_length.0;
  fields = fields_of h.fields;
}

-- a message that is refused has no header: all but the answer is 0
abbrev pub read_of : Result Header Refusal → MtHeader
read_of (Ok h) = header_of h
read_of (Err x) = record {
  answer = refused x;
  big = false;
  kind = 0;
  flags = 0;
  version = 0;
  serial = 0;
  body_place = 0;
  body_length = 0;
  fields = fields_of no_fields;
}

-- "(in_message, place, length)": a part of the message, or all n bytes of the fallback
abbrev pub part_of : Entry → ℕ → MtPart
part_of Absent n = record { in_message = false; place = 0; length = n }
part_of (Number m) n = record { in_message = false; place = 0; length = n }
part_of (Text p l) n = record { in_message = true; place = p.0; length = l.0 }
