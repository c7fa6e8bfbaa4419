-- Document 01's message cases, computed from the definitions.
use Prim.Native.Nat.{ℕ, zero, suc}
use mathlib.Core.List.{List, [], ◌∷◌, ◌++◌, map}
use mathlib.Core.Path.{◌≡◌, refl}
use lib.ListN.{replicate}
use Rattle.meaning.specs.Types.{base, str, path}
use Rattle.meaning.specs.Value.{◌▹◌, pad, each, sized, bare, enc_base, enc, enc_var, encode}
use Rattle.meaning.specs.Reader.{got, ret, here, fail, ◌>>=◌, check, bytes, ahead, window, many}
use Rattle.meaning.specs.Signature.{spell, nest, shape, legal, find, snoc, put, put_base, step, run, all_nest, parse}
use Rattle.meaning.specs.Number.{digits, value, store, load, gap, zeros}
use Rattle.meaning.specs.Text.{lead, scan, utf8, no_zero, names, is_path}
use Rattle.meaning.specs.ReadValue.{taken, no, padding, read_fix, sized_r, read_text, read_path, read_sig, accept, read_g, bare_r, base_r, elements, length_r, array_of, array_r, pair_r, and_r, read, single, variant_of, read_var, read_top}
use Rattle.meaning.specs.Message.{wants, enc_field, count, complete, text, encode_all, Message, enc_fixed, table, body_at, frame, encode_message}
use Rattle.meaning.specs.declared.MessageType.TheVariants.{Call}
use Rattle.meaning.specs.ReadMessage.{at_zero, ended, fixed_r, byte_r, one_type, ask, type_r, field_r, table_r, open_r, values_r, body_r, read_message, check_message}
use Rattle.meaning.specs.declared.Fault.TheVariants.{NotEnoughBytes, NotEnoughBytesForCollection, PaddingContainedData, InvalidBoolean, MissingTerminator, InvalidObjectPath, WrongSignature, VariantTooDeep, InvalidByteOrder, InvalidMessageType, NoSignature, InvalidHeaderField, InvalidHeaderFields, BodyLeft}
use Rattle.meaning.specs.declared.Order.TheVariants.{Little}
use Rattle.std.specs.Prelude.{Result}
use Rattle.meaning.specs.declared.Length.{Length}
use Rattle.meaning.specs.declared.Refusal.{Refusal}

pub record MessageCase : Type 0 where
  pub buf : List ℕ
  pub answer : Result Length Refusal

abbrev pub try : List ℕ → Result Length Refusal → MessageCase
try b r = record { buf = b; answer = r }

-- the first 12 bytes of a message of type k, and of a call, with a body of n bytes
abbrev pub head_of : ℕ → ℕ → List ℕ
head_of k n = 0x6c ∷ k ∷ 0 ∷ 1 ∷ n ∷ 0 ∷ 0 ∷ 0 ∷ 1 ∷ 0 ∷ 0 ∷ 0 ∷ []

abbrev pub head : ℕ → List ℕ
head n = head_of 1 n

abbrev pub size4 : ℕ → List ℕ
size4 n = n ∷ 0 ∷ 0 ∷ 0 ∷ []

abbrev pub field1 : List ℕ
field1 = 1 ∷ 1 ∷ 0x6f ∷ 0 ∷ 1 ∷ 0 ∷ 0 ∷ 0 ∷ 0x2f ∷ 0 ∷ []

-- a field of type s
abbrev pub field_s : ℕ → List ℕ
field_s c = c ∷ 1 ∷ 0x73 ∷ 0 ∷ 1 ∷ 0 ∷ 0 ∷ 0 ∷ 0x4b ∷ 0 ∷ []

abbrev pub field3 : List ℕ
field3 = field_s 3

abbrev pub field5 : List ℕ
field5 = 5 ∷ 1 ∷ 0x75 ∷ 0 ∷ 9 ∷ 0 ∷ 0 ∷ 0 ∷ []

-- the two fields of document 01's message, with the padding between
abbrev pub both : List ℕ
both = field1 ++ replicate 6 0 ++ field3

-- document 01's 48 bytes; the length of the table is open
abbrev pub call48 : ℕ → List ℕ
call48 n = head 0 ++ size4 n ++ both ++ replicate 6 0

-- the signature of a variant in a variant, n times
abbrev pub vees : ℕ → List ℕ
vees zero = []
vees (suc n) = 1 ∷ 0x76 ∷ 0 ∷ vees n

abbrev pub messages : List MessageCase
messages =
    try (call48 0x1a) (taken 48)
    ∷ try (call48 0x19) (no NotEnoughBytes 0)
    -- two messages in one read: the first ends at its own length
    ∷ try (call48 0x1a ++ call48 0x1a) (taken 48)
    ∷ try (call48 0x1a ++ 0xff ∷ 0xff ∷ []) (taken 48)
    -- the stated order
    ∷ try [] (no NotEnoughBytes 0)
    ∷ try (0x6d ∷ replicate 10 0) (no NotEnoughBytes 0)
    ∷ try (0x6d ∷ replicate 11 0) (no InvalidByteOrder 0)
    ∷ try (0x6c ∷ 5 ∷ replicate 10 0) (no InvalidMessageType 0)
    ∷ try (0x6c ∷ 1 ∷ replicate 10 0) (no NotEnoughBytes 0)
    ∷ try (0x6c ∷ 1 ∷ replicate 14 0) (no InvalidHeaderFields 0)
    ∷ try (head 0 ++ size4 1) (no NotEnoughBytes 0)
    -- a table that counts the padding after it
    ∷ try (call48 0x20) (no NotEnoughBytes 0)
    ∷ try (head 0 ++ size4 0x1a ++ both ++ 0 ∷ 0 ∷ 0 ∷ 0 ∷ 0 ∷ []) (no NotEnoughBytes 0)
    ∷ try (head 0 ++ size4 0x1a ++ both ++ 0 ∷ 0 ∷ 0 ∷ 0 ∷ 0 ∷ 1 ∷ []) (no PaddingContainedData 0)
    ∷ try (head 0 ++ size4 0x1a ++ field1 ++ 0 ∷ 0 ∷ 0 ∷ 0 ∷ 1 ∷ 0 ∷ field3 ++ replicate 6 0) (no PaddingContainedData 0)
    -- a field of each kind of fault: no type, two types, code 0, another type, its value's own
    ∷ try (head 0 ++ size4 3 ++ 1 ∷ 0 ∷ 0 ∷ []) (no NoSignature 0)
    ∷ try (head 0 ++ size4 4 ++ 1 ∷ 1 ∷ 0x7a ∷ 0 ∷ []) (no NoSignature 0)
    ∷ try (head 0 ++ size4 5 ++ 0 ∷ 2 ∷ 0x79 ∷ 0x79 ∷ 0 ∷ []) (no NoSignature 0)
    ∷ try (head 0 ++ size4 4 ++ 0 ∷ 1 ∷ 0x79 ∷ 0 ∷ []) (no InvalidHeaderField 0)
    ∷ try (head 0 ++ size4 4 ++ 1 ∷ 1 ∷ 0x73 ∷ 0 ∷ []) (no WrongSignature 0)
    ∷ try (head 0 ++ size4 4 ++ 1 ∷ 1 ∷ 0x6f ∷ 1 ∷ []) (no MissingTerminator 0)
    ∷ try (head 0 ++ size4 10 ++ 1 ∷ 1 ∷ 0x6f ∷ 0 ∷ 1 ∷ 0 ∷ 0 ∷ 0 ∷ 0x4b ∷ 0 ∷ []) (no InvalidObjectPath 0)
    ∷ try (head 0 ++ size4 8 ++ 10 ∷ 1 ∷ 0x62 ∷ 0 ∷ 2 ∷ 0 ∷ 0 ∷ 0 ∷ []) (no InvalidBoolean 0)
    ∷ try (head 0 ++ size4 10 ++ 10 ∷ 2 ∷ 0x61 ∷ 0x79 ∷ 0 ∷ 0 ∷ 0 ∷ 0 ∷ 3 ∷ 0 ∷ 0 ∷ 0 ∷ 0 ∷ []) (no NotEnoughBytes 0)
    ∷ try (head 0 ++ size4 13 ++ 10 ∷ 2 ∷ 0x61 ∷ 0x79 ∷ 0 ∷ 0 ∷ 0 ∷ 0 ∷ 3 ∷ 0 ∷ 0 ∷ 0 ∷ 0 ∷ []) (no NotEnoughBytesForCollection 0)
    -- a 17th variant, counted from the field's own
    ∷ try (head 0 ++ size4 50 ++ 10 ∷ vees 15 ++ 1 ∷ 0x79 ∷ 0 ∷ 5 ∷ []) (no InvalidHeaderFields 0)
    ∷ try (head 0 ++ size4 53 ++ 10 ∷ vees 16 ++ 1 ∷ 0x79 ∷ 0 ∷ 5 ∷ []) (no VariantTooDeep 0)
    -- what each type needs
    ∷ try (head 0 ++ size4 10 ++ field1 ++ replicate 6 0) (no InvalidHeaderFields 0)
    ∷ try (head 0 ++ size4 10 ++ field3 ++ replicate 6 0) (no InvalidHeaderFields 0)
    ∷ try (head_of 2 0 ++ size4 0x1a ++ both ++ replicate 6 0) (no InvalidHeaderFields 0)
    ∷ try (head_of 2 0 ++ size4 8 ++ field5) (taken 24)
    ∷ try (head_of 3 0 ++ size4 8 ++ field5) (no InvalidHeaderFields 0)
    ∷ try (head_of 3 0 ++ size4 10 ++ field_s 4 ++ replicate 6 0) (no InvalidHeaderFields 0)
    ∷ try (head_of 3 0 ++ size4 0x18 ++ field_s 4 ++ replicate 6 0 ++ field5) (taken 40)
    ∷ try (head_of 4 0 ++ size4 0x1a ++ both ++ replicate 6 0) (no InvalidHeaderFields 0)
    ∷ try (head_of 4 0 ++ size4 0x2a ++ both ++ replicate 6 0 ++ field_s 2 ++ replicate 6 0) (taken 64)
    -- a known field twice
    ∷ try (head 0 ++ size4 0x2a ++ field1 ++ replicate 6 0 ++ both ++ replicate 6 0) (no InvalidHeaderFields 0)
    -- field 10 at byte 32 after one that ended at 26 is skipped
    ∷ try (head 0 ++ size4 0x22 ++ field1 ++ replicate 6 0 ++ 10 ∷ 1 ∷ 0x79 ∷ 0 ∷ 7 ∷ replicate 3 0 ++ field3 ++ replicate 6 0) (taken 56)
    -- the other order: a reply
    ∷ try (0x42 ∷ 2 ∷ 0 ∷ 1 ∷ 0 ∷ 0 ∷ 0 ∷ 0 ∷ 0 ∷ 0 ∷ 0 ∷ 1 ∷ 0 ∷ 0 ∷ 0 ∷ 8 ∷ 5 ∷ 1 ∷ 0x75 ∷ 0 ∷ 0 ∷ 0 ∷ 0 ∷ 9 ∷ []) (taken 24)
    -- bodies
    ∷ try (call48 0x1a ++ 0 ∷ []) (taken 48)
    ∷ try (head 1 ++ size4 0x1a ++ both ++ replicate 6 0) (no NotEnoughBytes 0)
    ∷ try (head 1 ++ size4 0x1a ++ both ++ replicate 6 0 ++ 7 ∷ []) (no BodyLeft 48)
    ∷ try (head 1 ++ size4 0x27 ++ both ++ replicate 6 0 ++ 8 ∷ 1 ∷ 0x67 ∷ 0 ∷ 1 ∷ 0x79 ∷ 0 ∷ 0 ∷ 7 ∷ 9 ∷ []) (taken 57)
    ∷ []

abbrev tried : List MessageCase → List (Result Length Refusal)
tried cs = map (λ c. check_message c.buf) cs

pub message-cases : tried messages ≡ map (λ c. c.answer) messages
unfolding ret here fail ◌>>=◌ check bytes ahead window many spell nest shape legal find snoc put put_base step run all_nest parse digits value store
    load gap zeros lead scan utf8 no_zero names is_path padding read_fix sized_r read_text read_path read_sig accept read_g bare_r base_r elements length_r
    array_of array_r pair_r read single variant_of read_var read_top wants count complete text at_zero ended and_r fixed_r byte_r one_type ask type_r field_r
    table_r open_r values_r body_r read_message check_message
message-cases = refl

-- the parts of the 48 bytes, and the bytes again
abbrev parts : Message
parts = record {
  fixed = record { order = Little; kind = Call; flags = 0; version = 1; serial = 1 };
  fields = (1, (base path, 0x2f ∷ [])) ∷ (3, (base str, 0x4b ∷ [])) ∷ [];
  types = [];
  body = tt;
}

pub call-parts : read_message (call48 0x1a) 0 ≡ got parts 48
unfolding ret here fail ◌>>=◌ check bytes window many nest find put put_base step run all_nest parse digits value store load gap zeros lead scan utf8
    no_zero names is_path padding sized_r read_text read_path read_sig accept bare_r base_r length_r read read_var wants count complete text at_zero ended and_r
    fixed_r byte_r one_type ask type_r field_r table_r open_r values_r body_r read_message
call-parts = refl

pub call_back : encode_message parts ≡ call48 0x1a
unfolding digits store gap ◌▹◌ pad each sized bare enc_base enc enc_var encode spell enc_field encode_all enc_fixed table body_at frame encode_message
call_back = refl
