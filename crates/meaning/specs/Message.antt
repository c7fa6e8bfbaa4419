-- What a message's bytes are, made from its parts (the Specification, "Message Protocol", as document 01 amends it). It begins at byte 0.
use Rattle.std.specs.Prelude.{ℕ, zero, suc, ◌+◌, ◌^◌, ◌≤◌, ◌<◌, Bool, true, false, ◌&&◌, List, [], ◌∷◌, ◌++◌, ◌≡◌, length, take, leb, eqb, T}
use Rattle.meaning.specs.Types.{u32, Base, fix, str, path, sig, Ty, base, arr, dict, struct, variant, Var, Value}
use Rattle.meaning.specs.Signature.{spell_all, all_legal}
use Rattle.meaning.specs.Number.{store, gap}
use Rattle.meaning.specs.Value.{Layout, ◌▹◌, pad, raw, each, Cond, ok_pad, ok_then, Each, OkLength, enc_var, OkVar, encode, Fits}
use Rattle.meaning.specs.declared.Order.{Order}
use Rattle.meaning.specs.declared.Order.TheVariants.{Little, Big}
use Rattle.meaning.specs.declared.MessageType.{MessageType}
use Rattle.meaning.specs.declared.MessageType.TheVariants.{Call, Reply, Error, Signal}

-- the first byte: "ASCII 'l' for little-endian or ASCII 'B' for big-endian"
abbrev pub mark : Order → ℕ
mark Little = 108
mark Big = 66

-- the second byte; K5: types outside 1 to 4 are no messages
abbrev pub kind_code : MessageType → ℕ
kind_code Call = 1
kind_code Reply = 2
kind_code Error = 3
kind_code Signal = 4

-- "Call needs 1, 3; reply 5; error 4, 5; signal 1, 2, 3"
abbrev pub needed : MessageType → List ℕ
needed Call = 1 ∷ 3 ∷ []
needed Reply = 5 ∷ []
needed Error = 4 ∷ 5 ∷ []
needed Signal = 1 ∷ 2 ∷ 3 ∷ []

-- what a field of each code holds: code 0 is none, codes 1 to 9 hold a value of their type, later ones anything
pub data Wants : Type 0 where
  nothing : Wants
  exactly : Base → Wants
  anything : Wants

-- "codes 1 to 9 ask for o s s s u s s g u"
abbrev pub known_types : List Base
known_types = path ∷ str ∷ str ∷ str ∷ fix u32 ∷ str ∷ str ∷ sig ∷ fix u32 ∷ []

abbrev pub known_codes : List ℕ
known_codes = 1 ∷ 2 ∷ 3 ∷ 4 ∷ 5 ∷ 6 ∷ 7 ∷ 8 ∷ 9 ∷ []

abbrev pub nth : List Base → ℕ → Wants
nth [] n = anything
nth (c ∷ cs) zero = exactly c
nth (c ∷ cs) (suc n) = nth cs n

unfoldable pub wants : ℕ → Wants
wants zero = nothing
wants (suc n) = nth known_types n

abbrev pub Holds : Wants → Ty → Type 0
Holds nothing t = ⊥
Holds (exactly c) t = t ≡ base c
Holds anything t = Unit {0}

-- a field, an element of a(yv): its code, and a variant (a type and a value of it, with 15 variants left to nest)
abbrev pub Field : Type 0
Field = ℕ × Var 16

unfoldable pub enc_field : Order → Field → Layout
enc_field o f = pad 8 ▹ raw (f.0 ∷ []) ▹ enc_var o 16 f.1

unfoldable pub OkField : Order → Field → Cond
OkField o f = ok_pad 8 (ok_then (raw (f.0 ∷ [])) (λ off. (f.0 < 256) × Holds (wants f.0) f.1.0) (OkVar o 16 f.1))

-- how often a code stands there
unfoldable pub count : ℕ → List Field → ℕ
count c [] = 0
count c (f ∷ fs) = elim (eqb f.0 c) [ true ↦ suc (count c fs) | false ↦ count c fs ]

abbrev pub every : (ℕ → Bool) → List ℕ → Bool
every p [] = true
every p (c ∷ cs) = p c && every p cs

-- 21: "a required field is absent, or a known one stands twice"
unfoldable pub complete : MessageType → List Field → Bool
complete k fs = every (λ c. leb 1 (count c fs)) (needed k) && every (λ c. leb (count c fs) 1) known_codes

-- the text that a field holds, or else d
abbrev pub text_of : List ℕ → Var 16 → List ℕ
text_of d (base (fix c), v) = d
text_of d (base str, v) = v
text_of d (base path, v) = v
text_of d (base sig, v) = v
text_of d (arr e, v) = d
text_of d (dict f k e, v) = d
text_of d (struct fs, v) = d
text_of d (variant, v) = d

-- the text of the first field with the code, or else d
unfoldable pub text : List ℕ → ℕ → List Field → List ℕ
text d c [] = d
text d c (f ∷ fs) = elim (eqb f.0 c) [ true ↦ text_of d f.1 | false ↦ text d c fs ]

-- the body's signature: field 8, or none
abbrev pub body_signature : List Field → List ℕ
body_signature fs = text [] 8 fs

-- the values of a body, one after the other
abbrev pub Values : List Ty → Type 0
Values [] = Unit {0}
Values (t ∷ ts) = Value t × Values ts

unfoldable pub encode_all : Order → (ts : List Ty) → Values ts → Layout
encode_all o [] vs off = []
encode_all o (t ∷ ts) vs off = (encode o t vs.0 ▹ encode_all o ts vs.1) off

unfoldable pub FitsAll : Order → (ts : List Ty) → Values ts → Cond
FitsAll o [] vs off = Unit {0}
FitsAll o (t ∷ ts) vs off = ok_then (encode o t vs.0) (Fits o t vs.0) (FitsAll o ts vs.1) off

-- what the first 12 bytes say, but for the body's length; K5: flags, version and serial may be anything
pub record Fixed : Type 0 where
  pub order : Order
  pub kind : MessageType
  pub flags : ℕ
  pub version : ℕ
  pub serial : ℕ

pub record Message : Type 0 where
  pub fixed : Fixed
  pub fields : List Field
  pub types : List Ty
  pub body : Values types

unfoldable pub enc_fixed : Fixed → ℕ → List ℕ
enc_fixed h n = mark h.order ∷ kind_code h.kind ∷ h.flags ∷ h.version ∷ (store h.order 4 n ++ store h.order 4 h.serial)

-- the field table: its length, which counts no padding after it, and the fields
unfoldable pub table : Order → List Field → Layout
table o fs off = store o 4 (length (each (enc_field o) fs (off + 4))) ++ each (enc_field o) fs (off + 4)

-- where the body begins
unfoldable pub body_at : Order → List Field → ℕ
body_at o fs = 12 + length (table o fs 12) + gap 8 (12 + length (table o fs 12))

-- a message around the bytes of its body
unfoldable pub frame : Fixed → List Field → List ℕ → List ℕ
frame h fs body = (raw (enc_fixed h (length body)) ▹ table h.order fs ▹ pad 8 ▹ raw body) 0

abbrev pub body_of : Message → List ℕ
body_of m = encode_all m.fixed.order m.types m.body (body_at m.fixed.order m.fields)

unfoldable pub encode_message : Message → List ℕ
encode_message m = frame m.fixed m.fields (body_of m)

pub record OkFixed (h : Fixed) : Type 0 where
  pub flags : h.flags < 256
  pub version : h.version < 256
  pub serial : h.serial < 256 ^ 4

-- the conditions on a message
pub record Proper (m : Message) : Type 0 where
  pub fixed : OkFixed m.fixed
  pub fields : Each (enc_field m.fixed.order) (OkField m.fixed.order) m.fields 16
  pub table_size : OkLength (length (each (enc_field m.fixed.order) m.fields 16))
  pub complete : T (complete m.fixed.kind m.fields)
  -- field 8 spells the body's types
  pub legal : T (all_legal m.types)
  pub spelled : body_signature m.fields ≡ spell_all m.types
  pub short : length (spell_all m.types) ≤ 255
  pub body : FitsAll m.fixed.order m.types m.body (body_at m.fixed.order m.fields)
  pub size : length (body_of m) < 256 ^ 4

-- the first n bytes are a message
unfoldable pub EncodesMessage : List ℕ → ℕ → Type 0
EncodesMessage b n = (n ≤ length b) × ((m : Message) × Proper m × (take n b ≡ encode_message m))
