-- The stated order for messages: document 01, port order 5. "A message begins at byte 0."
use Rattle.std.specs.Prelude.{ℕ, ◌+◌, Bool, true, false, ◌||◌, List, [], ◌∷◌, length, take, drop, get_or, leb, eqb, Result}
use Rattle.meaning.specs.Reader.{Res, got, fault, stop, R, ret, fail, ◌>>=◌, ◌>>◌, check, bytes, inside, many}
use Rattle.meaning.specs.Types.{Ty, base, arr, dict, struct, variant}
use Rattle.meaning.specs.Signature.{code, parse, Parsed, types, refused}
use Rattle.meaning.specs.Number.{load, gap}
use Rattle.meaning.specs.Text.{pick, between}
use Rattle.meaning.specs.ReadValue.{padding, read_sig, accept, length_r, pair_r, and_r, read, read_var, read_top, checked_of}
use Rattle.meaning.specs.Message.{Wants, nothing, exactly, anything, wants, Field, complete, body_signature, Values, Fixed, Message}
use Rattle.meaning.specs.declared.MessageType.{MessageType}
use Rattle.meaning.specs.declared.MessageType.TheVariants.{Call, Reply, Error, Signal}
use Rattle.meaning.specs.declared.Length.{Length}
use Rattle.meaning.specs.declared.Refusal.{Refusal}
use Rattle.meaning.specs.declared.Fault.TheVariants.{WrongSignature, InvalidByteOrder, InvalidMessageType, NoSignature, InvalidHeaderField, InvalidHeaderFields, BodyLeft}
use Rattle.meaning.specs.Faults.{moved}
use Rattle.meaning.specs.declared.Order.{Order}
use Rattle.meaning.specs.declared.Order.TheVariants.{Little, Big}

-- Two more combinators.
-- r, with its refusals at position 0: "Faults before the body's values have position 0"
abbrev pub to_zero : {A : Type 0} → Res A → Res A
to_zero (got v e) = got v e
to_zero (fault x) = fault (moved 0 x)

unfoldable pub at_zero : {A : Type 0} → R A → R A
at_zero r b off = to_zero (r b off)

-- nothing more is seen; else 22: "body bytes remain after its last value", at "the first unread byte"
unfoldable pub ended : R (Unit {0})
ended b off = elim (leb (length b) off) [ true ↦ got tt off | false ↦ stop BodyLeft off ]

-- The first 12 bytes: byte order, type, flags, version, length of the body, serial
abbrev pub is_mark : ℕ → Bool
is_mark c = eqb c 108 || eqb c 66

abbrev pub order_of : ℕ → Order
order_of c = pick (eqb c 108) Little Big

abbrev pub is_kind : ℕ → Bool
is_kind c = between 1 4 c

abbrev pub kind_of : ℕ → MessageType
kind_of c = pick (eqb c 1) Call (pick (eqb c 2) Reply (pick (eqb c 3) Error Signal))

abbrev pub fixed_in : List ℕ → Fixed
fixed_in x = record {
  order = order_of (get_or x 0 0);
  kind = kind_of (get_or x 1 0);
  flags = get_or x 2 0;
  version = get_or x 3 0;
  serial = load (order_of (get_or x 0 0)) (take 4 (drop 8 x));
}

abbrev pub size_in : List ℕ → ℕ
size_in x = load (order_of (get_or x 0 0)) (take 4 (drop 4 x))

-- what the first 16 bytes say of the length of the field table, and of the whole
unfoldable pub table_in : List ℕ → ℕ
table_in b = load (fixed_in (take 12 b)).order (take 4 (drop 12 b))

unfoldable pub message_size : List ℕ → ℕ
message_size b = 16 + table_in b + gap 8 (16 + table_in b) + size_in (take 12 b)

-- "Under 12 bytes 2; 17; 18"
unfoldable pub fixed_r : R (Fixed × ℕ)
fixed_r = do
  x ← bytes 12 0
  check (is_mark (get_or x 0 0)) InvalidByteOrder 0
  check (is_kind (get_or x 1 0)) InvalidMessageType 0
  ret (fixed_in x, size_in x)

-- The fields. "A field: align 8 (2 or 4), code (2)"
unfoldable pub byte_r : R ℕ
byte_r = bytes 1 0 >>= λ x. ret (get_or x 0 0)

-- 19: "a header field's signature isn't one type"
unfoldable pub one_type : Parsed → R Ty
one_type (types []) = fail NoSignature 0
one_type (types (t ∷ [])) = ret t
one_type (types (t ∷ u ∷ ts)) = fail NoSignature 0
one_type (refused k) = fail NoSignature 0

-- a basic type's code, or none's
abbrev pub code_of : Ty → ℕ
code_of (base c) = code c
code_of (arr e) = 0
code_of (dict f k e) = 0
code_of (struct fs) = 0
code_of variant = 0

-- "then code 0 is 20; codes 1 to 9 ask for o s s s u s s g u, else 15"
unfoldable pub ask : Wants → Ty → R (Unit {0})
ask nothing t = fail InvalidHeaderField 0
ask (exactly c) t = check (eqb (code_of t) (code c)) WrongSignature 0
ask anything t = ret tt

-- "signature (2, 6, 8, 19)"
unfoldable pub type_r : Order → ℕ → R Ty
type_r o c = do
  s ← read_sig o
  t ← one_type (parse s)
  ask (wants c) t
  ret t

-- "then that value's own faults; codes from 10 are ignored once their variant is valid": S3, the variant is read after the field's padding, and
-- it is the first of 16
unfoldable pub field_r : Order → R Field
field_r o = padding 8 >> and_r byte_r (λ c. and_r (type_r o c) (λ t. read o (read_var o 15) t))

-- "under 16 bytes 2; field table past the end 2; fields": S2, they see nothing beyond their table
unfoldable pub table_r : Order → R (List Field)
table_r o = length_r o >>= λ n. inside n (many n (field_r o))

-- All before the body's values: what the first bytes say with the body's length, the fields, the body's types by field 8. "fields; 21; padding
-- to 8 (2 or 4)". That field 8 spells types was seen when it was read (`spelled-types`, in proofs/), so `accept` refuses nothing here
abbrev pub Opened : Type 0
Opened = (Fixed × ℕ) × (List Field × List Ty)

unfoldable pub open_r : R Opened
open_r = do
  h ← fixed_r
  fs ← table_r h.0.order
  check (complete h.0.kind fs) InvalidHeaderFields 0
  padding 8
  ts ← accept (parse (body_signature fs)) 0
  ret (h, (fs, ts))

-- "body values by field 8 (none if absent)"
unfoldable pub values_r : Order → (ts : List Ty) → R (Values ts)
values_r o [] = ret tt
values_r o (t ∷ ts) = pair_r (read_top o t) (values_r o ts)

unfoldable pub body_r : Order → (ts : List Ty) → R (Values ts)
body_r o ts = values_r o ts >>= λ vs. ended >> ret vs

abbrev pub message_of : (h : Opened) → Values h.1.1 → Message
message_of h vs = record { fixed = h.0.0; fields = h.1.0; types = h.1.1; body = vs }

-- "body past the end 2; body values .., which see nothing past the body; 22": S4
unfoldable pub read_message : R Message
read_message = at_zero open_r >>= λ h. inside h.0.1 (body_r h.0.0.order h.1.1) >>= λ vs. ret (message_of h vs)

-- the check of a message: its length, or the refusal
unfoldable pub check_message : List ℕ → Result Length Refusal
check_message b = checked_of 0 (read_message b 0)
