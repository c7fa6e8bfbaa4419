-- What the functions that read the field table answer, in terms of the readers of the meaning crate.
use Rattle.std.specs.Prelude.{ℕ, zero, suc, Bool, List, get_or, leb, Result, Ok, Err}
use Rattle.meaning.specs.Reader.{Res, got, fault, R, ret, ◌>>=◌, ◌>>◌, check, many}
use Rattle.meaning.specs.Message.{Field, complete, needed, every, known_codes}
use Rattle.meaning.specs.ReadMessage.{field_r}
use Rattle.meaning.specs.Header.{fields_by, fields_from}
use Rattle.meaning.specs.declared.Order.{Order}
use Rattle.meaning.specs.declared.MessageType.{MessageType}
use Rattle.meaning.specs.declared.Entry.{Entry}
use Rattle.meaning.specs.declared.Entry.TheVariants.{Absent}
use Rattle.meaning.specs.declared.Fields.{Fields}
use Rattle.meaning.specs.declared.Fault.TheVariants.{InvalidHeaderFields}
use Rattle.meaning.specs.declared.Refusal.{Refusal}
use Rattle.header.specs.declared.header_fields.Seen.{Seen}

-- of two entries for one code the first is kept
abbrev pub first_of : ℕ → Entry → Entry → Entry
first_of zero old new = new
first_of (suc n) old new = old

-- a code that was not seen
abbrev pub unseen : Seen
unseen = record { count = 0; entry = Absent }

-- 21, from how often each code was seen
unfoldable pub present : MessageType → List Seen → Bool
present k ss = every (λ c. leb 1 (get_or ss c unseen).count) (needed k)

unfoldable pub once : List Seen → Bool
once ss = every (λ c. leb (get_or ss c unseen).count 1) known_codes

-- "fields; 21"
unfoldable pub fields_r : Order → MessageType → ℕ → R (List Field)
fields_r o k n = many n (field_r o) >>= λ fs. check (complete k fs) InvalidHeaderFields 0 >> ret fs

-- the nine entries of a list by their codes
abbrev pub by_code : List Seen → Fields
by_code ss = fields_by (λ c. (get_or ss c unseen).entry)

abbrev pub table_to : Order → ℕ → Res (List Field) → Result Fields Refusal
table_to o off (got fs e) = Ok (fields_from o fs off)
table_to o off (fault x) = Err x
