-- The stated order for values: document 01, port order 2 to 4. Each reader refuses with the first fault of that order.
use Rattle.std.specs.Prelude.{ℕ, zero, suc, ◌+◌, ◌-◌, ◌%◌, Bool, true, false, List, [], ◌∷◌, length, take, drop, leb, ltb, eqb, Result, Ok, Err}
use Rattle.meaning.specs.Reader.{Res, got, fault, R, ret, here, fail, ◌>>=◌, ◌>>◌, check, bytes, ahead, within, many}
use Rattle.meaning.specs.Types.{Fix, byte, bool, i16, u16, i32, u32, i64, u64, dbl, fd, Base, fix, str, path, sig, Ty, base, arr, dict, struct, variant, Tys, one, more, Raw, Of, Ofs, Var, Value, size, align_base, align, whole}
use Rattle.meaning.specs.Signature.{parse, Parsed, types, refused}
use Rattle.meaning.specs.Number.{load, gap, zeros}
use Rattle.meaning.specs.Text.{utf8, no_zero, is_path}
use Rattle.meaning.specs.declared.Fault.{Fault}
use Rattle.meaning.specs.declared.Fault.TheVariants.{BadOffset, NotEnoughBytes, PaddingContainedData, InvalidBoolean, InvalidUtf8, StringContainsNullByte, MissingTerminator, InvalidObjectPath, EmptySignature, WrongSignature, VariantTooDeep, BadArgument}
use Rattle.meaning.specs.declared.Length.{Length}
use Rattle.meaning.specs.declared.Refusal.{Refusal}
use Rattle.meaning.specs.Faults.{refusal}
use Rattle.meaning.specs.declared.Order.{Order}

-- the position that goes with refusal 4: "Padding faults: position before the padding"
abbrev pub at4 : ℕ → List ℕ → ℕ
at4 p zs = p

-- "padding is tested for length first, then for zeros"
unfoldable pub padding : ℕ → R (Unit {0})
padding a = do
  p ← here
  zs ← bytes (gap a p) p
  check (zeros zs) PaddingContainedData (at4 p zs)

-- of the fixed types only a Boolean can be wrong
abbrev pub valid : Fix → ℕ → Bool
valid byte x = true
valid bool x = ltb x 2
valid i16 x = true
valid u16 x = true
valid i32 x = true
valid u32 x = true
valid i64 x = true
valid u64 x = true
valid dbl x = true
valid fd x = true

-- a number: 2 where it runs past the end, 5 for a Boolean that is "neither 0 nor 1"
unfoldable pub read_fix : Order → Fix → R ℕ
read_fix o c = do
  p ← here
  xs ← bytes (size c) p
  check (valid c (load o xs)) InvalidBoolean p
  ret (load o xs)

-- a length of w bytes, that many bytes, a zero. "Checks in order: 2 for the length field, 2 for length plus 5, 6, 7, 8"
unfoldable pub sized_r : Order → ℕ → (List ℕ → Bool) → R (List ℕ)
sized_r o w test = do
  p ← here
  l ← bytes w p
  s ← bytes (load o l + 1) p
  check (utf8 (take (load o l) s)) InvalidUtf8 p
  check (test (take (load o l) s)) StringContainsNullByte p
  check (zeros (drop (load o l) s)) MissingTerminator p
  ret (take (load o l) s)

abbrev pub any : List ℕ → Bool
any s = true

-- "String: 32-bit length, bytes, zero"
unfoldable pub read_text : Order → R (List ℕ)
read_text o = sized_r o 4 no_zero

-- "Signature: one length byte, bytes, zero: 2 if empty, 2 for length plus 2, 6, 8, then grammar"
unfoldable pub read_sig : Order → R (List ℕ)
read_sig o = sized_r o 1 any

-- an object path is a string that keeps the path rule, else 9
unfoldable pub read_path : Order → R (List ℕ)
read_path o = do
  p ← here
  s ← read_text o
  check (is_path s) InvalidObjectPath p
  ret s

-- the grammar's verdict on a signature that was read at p
unfoldable pub accept : Parsed → ℕ → R (List Ty)
accept (types ts) p = ret ts
accept (refused k) p = fail k p

-- "A `g` value is zero or more types"
unfoldable pub read_g : Order → R (List ℕ)
read_g o = do
  p ← here
  s ← read_sig o
  accept (parse s) p
  ret s

-- "Other base faults: position after it", the padding
unfoldable pub bare_r : Order → (c : Base) → R (Raw c)
bare_r o (fix c) = read_fix o c
bare_r o str = read_text o
bare_r o path = read_path o
bare_r o sig = read_g o

unfoldable pub base_r : Order → (c : Base) → R (Raw c)
base_r o c = padding (align_base c) >> bare_r o c

-- "Arrays of y n q u x t h d are only tested for a whole number of elements (2, at the first)": the elements inside an array, whose n bytes must
-- be a whole number of w. Where that holds, reading them one by one accepts them too (Plain, in proofs/)
unfoldable pub elements : {A : Type 0} → ℕ → ℕ → R A → R (List A)
elements n w r = here >>= λ f. check (eqb (n % w) 0) NotEnoughBytes f >> many n r

-- an array's length field: 2, after the padding to 4
unfoldable pub length_r : Order → R ℕ
length_r o = here >>= λ p. bytes 4 p >>= λ l. ret (load o l)

-- "contents against the bytes left (3, after the length field); padding to the element, not counted in the length (2 or 4, after the length
-- field); contents again (3, at the first element); then the elements, which see nothing beyond the array's end": c n reads those n bytes
abbrev pub contents_of : {A : Type 0} → ℕ → (ℕ → R A) → ℕ → R A
contents_of a c n = ahead n (padding a >> within n (c n))

-- "Array and dict: align 4 (2 or 4, before the padding)": their head, and c for what is done with the contents, by their length
unfoldable pub array_of : {A : Type 0} → Order → ℕ → (ℕ → R A) → R A
array_of o a c = padding 4 >> (length_r o >>= λ n. contents_of a c n)

-- an array whose elements, aligned to a, are read by r
unfoldable pub array_r : {A : Type 0} → Order → ℕ → ℕ → R A → R (List A)
array_r o a w r = array_of o a (λ n. elements n w r)

unfoldable pub pair_r : {A B : Type 0} → R A → R B → R (A × B)
pair_r r s = r >>= λ x. s >>= λ y. ret (x, y)

-- one thing and then another, which rests on it
unfoldable pub and_r : {A : Type 0} {B : A → Type 0} → R A → ((x : A) → R (B x)) → R ((x : A) × B x)
and_r r s = r >>= λ x. s x >>= λ y. ret (x, y)

-- a value of each type, where read_w reads a variant. "Struct: align 8, fields in turn; a dict entry the same, key then value"
module _ (o : Order) {W : Type 0} (read_w : R W) where
  unfoldable mutual
    pub read : (t : Ty) → R (Of t W)
    read (base c) = base_r o c
    read (arr e) = array_r o (align e) (whole e) (read e)
    read (dict f k e) = array_r o 8 1 (padding 8 >> pair_r (base_r o k) (read e))
    read (struct fs) = padding 8 >> reads fs
    read variant = read_w

    pub reads : (fs : Tys) → R (Ofs fs W)
    reads (one e) = read e
    reads (more e fs) = pair_r (read e) (reads fs)

-- 11 for an empty signature, 15 for "a variant without exactly one type"
unfoldable pub single : List Ty → ℕ → R Ty
single [] p = fail EmptySignature p
single (e ∷ []) p = ret e
single (e ∷ d ∷ ds) p = fail WrongSignature p

-- "signature, grammar, 15, all at its own offset; then the value": a variant's head, and c for what is done with its contents, by their type
unfoldable pub variant_of : {B : Ty → Type 0} → Order → ((e : Ty) → R (B e)) → R ((e : Ty) × B e)
variant_of o c = do
  p ← here
  s ← read_sig o
  ts ← accept (parse s) p
  e ← single ts p
  v ← c e
  ret (e, v)

-- "Variant: 16, then" its head and its value. n variants may still stand within one another
unfoldable pub read_var : Order → (n : ℕ) → R (Var n)
read_var o zero = here >>= λ p. fail VariantTooDeep p
read_var o (suc n) = variant_of o (λ e. read o (read_var o n) e)

-- a value of a type that a caller named: 16 variants may stand within one another
unfoldable pub read_top : Order → (t : Ty) → R (Value t)
read_top o t = read o (read_var o 16) t

-- What a check answers: the length of what was read, or the refusal
abbrev pub taken : ℕ → Result Length Refusal
taken n = Ok (record { 0 = n })

abbrev pub no : Fault → ℕ → Result Length Refusal
no f p = Err (refusal f p)

abbrev pub checked_of : {A : Type 0} → ℕ → Res A → Result Length Refusal
checked_of off (got v e) = taken (e - off)
checked_of off (fault x) = Err x

-- 1: "offset or writing place is above the buffer's length"; its position is the offset
unfoldable pub check_at : {A : Type 0} → R A → List ℕ → ℕ → Result Length Refusal
check_at r b off = elim (leb off (length b)) [ true ↦ checked_of off (r b off) | false ↦ no BadOffset off ]

-- 26: "the caller's signature isn't exactly one type"
pub data Opt : Type 0 where
  the : Ty → Opt
  not1 : Opt

abbrev pub only_one : Parsed → Opt
only_one (types []) = not1
only_one (types (e ∷ [])) = the e
only_one (types (e ∷ d ∷ ds)) = not1
only_one (refused k) = not1

-- "Order for a value: 26 (position 0), 1 (position: the offset), then the walk"
unfoldable pub check_value : Order → List ℕ → List ℕ → ℕ → Result Length Refusal
check_value o s b off = elim (only_one (parse s)) [ the t ↦ check_at (read_top o t) b off | not1 ↦ no BadArgument 0 ]

-- "A bare signature check answers the number of types, or a refusal at position 0"; "Above 255 bytes 13; empty 11"
abbrev pub counted_of : Parsed → Result ℕ Refusal
counted_of (types ts) = Ok (length ts)
counted_of (refused k) = Err (refusal k 0)

unfoldable pub check_signature : List ℕ → Result ℕ Refusal
check_signature [] = Err (refusal EmptySignature 0)
check_signature (c ∷ cs) = counted_of (parse (c ∷ cs))
