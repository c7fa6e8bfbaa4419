-- Signatures: how a type is spelled, which types are legal, and the grammar with document 01's order of faults (port order 3).
use Rattle.std.specs.Prelude.{ℕ, suc, Bool, true, false, ◌&&◌, List, [], ◌∷◌, ◌++◌, length, leb, ltb, eqb}
use Rattle.meaning.specs.Types.{Fix, byte, bool, i16, u16, i32, u32, i64, u64, dbl, fd, Base, fix, str, path, sig, Form, in_array, loose, Ty, base, arr, dict, struct, variant, Tys, one, more}
use Rattle.meaning.specs.declared.Fault.{Fault}
use Rattle.meaning.specs.declared.Fault.TheVariants.{InvalidSignature, EmptyStruct, SignatureTooLong, NestingTooDeep}

-- the Specification, "Basic types": the ASCII type-codes
abbrev pub code_fix : Fix → ℕ
code_fix byte = 121
code_fix bool = 98
code_fix i16 = 110
code_fix u16 = 113
code_fix i32 = 105
code_fix u32 = 117
code_fix i64 = 120
code_fix u64 = 116
code_fix dbl = 100
code_fix fd = 104

abbrev pub code : Base → ℕ
code (fix c) = code_fix c
code str = 115
code path = 111
code sig = 103

abbrev pub opening : Form → List ℕ
opening in_array = 97 ∷ 123 ∷ []
opening loose = 123 ∷ []

-- "ARRAY a, STRUCT ( ), VARIANT v, DICT_ENTRY { }"
unfoldable mutual
  pub spell : Ty → List ℕ
  spell (base c) = code c ∷ []
  spell (arr e) = 97 ∷ spell e
  spell (dict f k e) = opening f ++ code k ∷ spell e ++ 125 ∷ []
  spell (struct fs) = 40 ∷ spells fs ++ 41 ∷ []
  spell variant = 118 ∷ []

  pub spells : Tys → List ℕ
  spells (one e) = spell e
  spells (more e fs) = spell e ++ spells fs

-- zero or more types, spelled one after the other
unfoldable pub spell_all : List Ty → List ℕ
spell_all [] = []
spell_all (e ∷ es) = spell e ++ spell_all es

-- "A type under 32 structs or 32 arrays is 14"; "A dict counts as one array level" (K3). The limit is one number
abbrev pub shallow : ℕ → ℕ → Bool
shallow s a = ltb s 32 && ltb a 32

unfoldable mutual
  pub nest : Ty → ℕ → ℕ → Bool
  nest (base c) s a = shallow s a
  nest (arr e) s a = shallow s a && nest e s (suc a)
  nest (dict f k e) s a = shallow s a && nest e s (suc a)
  nest (struct fs) s a = shallow s a && nests fs (suc s) a
  nest variant s a = shallow s a

  pub nests : Tys → ℕ → ℕ → Bool
  nests (one e) s a = nest e s a
  nests (more e fs) s a = nest e s a && nests fs s a

-- K2: "Boolean is no dict key"; every other basic type is one
abbrev pub is_key : Base → Bool
is_key (fix byte) = true
is_key (fix bool) = false
is_key (fix i16) = true
is_key (fix u16) = true
is_key (fix i32) = true
is_key (fix u32) = true
is_key (fix i64) = true
is_key (fix u64) = true
is_key (fix dbl) = true
is_key (fix fd) = true
is_key str = true
is_key path = true
is_key sig = true

-- K1: a dict alone is a type; in an array it is spelled as the dict of that array
abbrev pub not_loose : Ty → Bool
not_loose (base c) = true
not_loose (arr e) = true
not_loose (dict in_array k e) = true
not_loose (dict loose k e) = false
not_loose (struct fs) = true
not_loose variant = true

-- the shapes that the grammar spells
unfoldable mutual
  pub shape : Ty → Bool
  shape (base c) = true
  shape (arr e) = not_loose e && shape e
  shape (dict f k e) = is_key k && shape e
  shape (struct fs) = shapes fs
  shape variant = true

  pub shapes : Tys → Bool
  shapes (one e) = shape e
  shapes (more e fs) = shape e && shapes fs

unfoldable pub legal : Ty → Bool
legal e = shape e && nest e 0 0

-- The grammar as a machine: one pass from left to right over the bytes, with what is still open, so that the first fault decides
pub data Tok : Type 0 where
  is_base : Base → Tok
  is_arr is_var is_open is_close is_curl is_uncurl is_bad : Tok

abbrev pub code_tok : Tok → ℕ
code_tok (is_base c) = code c
code_tok is_arr = 97
code_tok is_var = 118
code_tok is_open = 40
code_tok is_close = 41
code_tok is_curl = 123
code_tok is_uncurl = 125
code_tok is_bad = 256

abbrev pub toks : List Tok
toks = is_base (fix byte) ∷ is_base (fix bool) ∷ is_base (fix i16) ∷ is_base (fix u16) ∷ is_base (fix i32) ∷ is_base (fix u32) ∷ is_base (fix i64)
    ∷ is_base (fix u64) ∷ is_base (fix dbl) ∷ is_base (fix fd) ∷ is_base str ∷ is_base path ∷ is_base sig ∷ is_arr ∷ is_var ∷ is_open ∷ is_close ∷ is_curl ∷ is_uncurl ∷ []

unfoldable pub find : List Tok → ℕ → Tok
find [] c = is_bad
find (k ∷ ks) c = elim (eqb (code_tok k) c) [ true ↦ k | false ↦ find ks c ]

unfoldable pub snoc : Tys → Ty → Tys
snoc (one e) t = more e (one t)
snoc (more e fs) t = more e (snoc fs t)

pub data Stack : Type 0 where
  floor : List Ty → Stack
  open0 : Stack → Stack
  open1 : Tys → Stack → Stack
  in_arr : Stack → Stack
  need_key : Form → Stack → Stack
  need_val : Form → Base → Stack → Stack
  need_end : Form → Base → Ty → Stack → Stack

pub data Step : Type 0 where
  to : Stack → Step
  bad : Fault → Step

-- a whole type has been read
unfoldable pub put : Stack → Ty → Step
put (floor ts) t = to (floor (ts ++ t ∷ []))
put (open0 k) t = to (open1 (one t) k)
put (open1 ts k) t = to (open1 (snoc ts t) k)
put (in_arr k) t = put k (arr t)
put (need_key f k) t = bad InvalidSignature
put (need_val f c k) t = to (need_end f c t k)
put (need_end f c e k) t = bad InvalidSignature

-- a key that is none is 10
abbrev pub keyed : Bool → Stack → Step
keyed true k = to k
keyed false k = bad InvalidSignature

unfoldable pub put_base : Stack → Base → Step
put_base (floor ts) c = put (floor ts) (base c)
put_base (open0 k) c = put (open0 k) (base c)
put_base (open1 ts k) c = put (open1 ts k) (base c)
put_base (in_arr k) c = put (in_arr k) (base c)
put_base (need_key f k) c = keyed (is_key c) (need_val f c k)
put_base (need_val f d k) c = put (need_val f d k) (base c)
put_base (need_end f d e k) c = bad InvalidSignature

-- a type may begin here
abbrev pub begin : Stack → Stack → Step
begin (floor ts) n = to n
begin (open0 k) n = to n
begin (open1 ts k) n = to n
begin (in_arr k) n = to n
begin (need_key f k) n = bad InvalidSignature
begin (need_val f c k) n = to n
begin (need_end f c e k) n = bad InvalidSignature

-- { begins a dict: in an array, or (K1) alone
abbrev pub curl : Stack → Step
curl (floor ts) = to (need_key loose (floor ts))
curl (open0 k) = to (need_key loose (open0 k))
curl (open1 ts k) = to (need_key loose (open1 ts k))
curl (in_arr k) = to (need_key in_array k)
curl (need_key f k) = bad InvalidSignature
curl (need_val f c k) = to (need_key loose (need_val f c k))
curl (need_end f c e k) = bad InvalidSignature

-- "`()` is 12 when its bracket closes"
abbrev pub close : Stack → Step
close (floor ts) = bad InvalidSignature
close (open0 k) = bad EmptyStruct
close (open1 ts k) = put k (struct ts)
close (in_arr k) = bad InvalidSignature
close (need_key f k) = bad InvalidSignature
close (need_val f c k) = bad InvalidSignature
close (need_end f c e k) = bad InvalidSignature

abbrev pub uncurl : Stack → Step
uncurl (floor ts) = bad InvalidSignature
uncurl (open0 k) = bad InvalidSignature
uncurl (open1 ts k) = bad InvalidSignature
uncurl (in_arr k) = bad InvalidSignature
uncurl (need_key f k) = bad InvalidSignature
uncurl (need_val f c k) = bad InvalidSignature
uncurl (need_end f c e k) = put k (dict f c e)

unfoldable pub step : Tok → Stack → Step
step (is_base c) k = put_base k c
step is_arr k = begin k (in_arr k)
step is_var k = put k variant
step is_open k = begin k (open0 k)
step is_close k = close k
step is_curl k = curl k
step is_uncurl k = uncurl k
step is_bad k = bad InvalidSignature

unfoldable pub run : List ℕ → Stack → Step
run [] k = to k
run (c ∷ cs) k = elim (step (find toks c) k) [ to j ↦ run cs j | bad n ↦ bad n ]

pub data Parsed : Type 0 where
  types : List Ty → Parsed
  refused : Fault → Parsed

unfoldable pub all_legal : List Ty → Bool
all_legal [] = true
all_legal (e ∷ es) = legal e && all_legal es

unfoldable pub all_nest : List Ty → Bool
all_nest [] = true
all_nest (e ∷ es) = nest e 0 0 && all_nest es

-- "nesting last"
abbrev pub finish : Step → Parsed
finish (to (floor ts)) = elim (all_nest ts) [ true ↦ types ts | false ↦ refused NestingTooDeep ]
finish (to (open0 k)) = refused InvalidSignature
finish (to (open1 fs k)) = refused InvalidSignature
finish (to (in_arr k)) = refused InvalidSignature
finish (to (need_key f k)) = refused InvalidSignature
finish (to (need_val f c k)) = refused InvalidSignature
finish (to (need_end f c e k)) = refused InvalidSignature
finish (bad n) = refused n

-- zero or more types: "Above 255 bytes 13; .. then left to right, the first fault deciding; nesting last"
unfoldable pub parse : List ℕ → Parsed
parse s = elim (leb (length s) 255) [ true ↦ finish (run s (floor [])) | false ↦ refused SignatureTooLong ]
