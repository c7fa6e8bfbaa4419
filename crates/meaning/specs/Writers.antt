-- What a write answers and what it leaves in the buffer: document 01, "Order for a write", and port order 6.
use Rattle.std.specs.Prelude.{ℕ, ◌+◌, ◌^◌, Bool, true, false, ◌||◌, List, ◌++◌, length, take, drop, replicate, leb, ltb, eqb, Result, Ok, Err}
use Rattle.meaning.specs.declared.Order.{Order}
use Rattle.meaning.specs.declared.Fault.{Fault}
use Rattle.meaning.specs.declared.Fault.TheVariants.{BadOffset, InvalidUtf8, StringContainsNullByte, NoRoom, BadAlignment, TextTooLong}
use Rattle.meaning.specs.declared.Place.{Place}
use Rattle.meaning.specs.declared.Refusal.{Refusal}
use Rattle.meaning.specs.Faults.{refusal}
use Rattle.meaning.specs.Number.{store, gap}
use Rattle.meaning.specs.Signature.{parse, Parsed, types, refused}
use Rattle.meaning.specs.Text.{utf8, no_zero}
use Rattle.meaning.specs.Value.{sized}

-- a write's answer, and every byte of the buffer after it
pub record Wrote : Type 0 where
  pub answer : Result Place Refusal
  pub after : List ℕ

-- "the position of each is the place"; "Refused, a write leaves buffer and place untouched"
abbrev pub unwritten : Fault → List ℕ → ℕ → Wrote
unwritten f b at = record { answer = Err (refusal f at); after = b }

-- "done, it alters exactly the bytes it writes and moves the place past them"; 23: "fewer bytes lie after the place than the write needs"
unfoldable pub put_at : List ℕ → ℕ → List ℕ → Wrote
put_at b at xs = elim (leb (at + length xs) (length b)) [
  | true ↦ record { answer = Ok (record { 0 = at + length xs }); after = take at b ++ xs ++ drop (at + length xs) b }
  | false ↦ unwritten NoRoom b at
]

-- what is to be written: bytes, or the fault for which they can't be
pub data Content : Type 0 where
  bytes : List ℕ → Content
  faulty : Fault → Content

abbrev pub put_content : Content → List ℕ → ℕ → Wrote
put_content (bytes xs) b at = put_at b at xs
put_content (faulty f) b at = unwritten f b at

-- "Order for a write: 1 or 24 (1 first), then length (13 or 25), then content .., then 23"
unfoldable pub write_at : Content → List ℕ → ℕ → Wrote
write_at c b at = elim (leb at (length b)) [ true ↦ put_content c b at | false ↦ unwritten BadOffset b at ]

abbrev pub unless : Bool → Fault → Content → Content
unless true f c = c
unless false f c = faulty f

-- 24: "alignment asked for isn't 1, 2, 4 or 8"
abbrev pub is_alignment : ℕ → Bool
is_alignment a = eqb a 1 || eqb a 2 || eqb a 4 || eqb a 8

-- "Writers: padding, integers, string, signature; only the first pads"
abbrev pub padding_bytes : ℕ → ℕ → Content
padding_bytes a at = unless (is_alignment a) BadAlignment (bytes (replicate (gap a at) 0))

abbrev pub integer_bytes : Order → ℕ → ℕ → Content
integer_bytes o w x = bytes (store o w x)

-- 25: "a string above 4,294,967,295 bytes"; then 6, 7
abbrev pub string_bytes : Order → List ℕ → Content
string_bytes o s = unless (ltb (length s) (256 ^ 4)) TextTooLong (unless (utf8 s) InvalidUtf8 (unless (no_zero s) StringContainsNullByte (bytes (sized o 4 s))))

-- 13; then "signatures 10, 12, 14". A signature of no types can be written
abbrev pub signature_from : Order → List ℕ → Parsed → Content
signature_from o s (types ts) = bytes (sized o 1 s)
signature_from o s (refused f) = faulty f

abbrev pub signature_bytes : Order → List ℕ → Content
signature_bytes o s = signature_from o s (parse s)
