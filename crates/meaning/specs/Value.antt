-- What a value's bytes are, made from the value, its type, the byte order and the offset (the Specification, "Marshaling (Wire Format)").
-- Nothing here knows of the check.
use Rattle.std.specs.Prelude.{ℕ, zero, suc, ◌+◌, ◌^◌, ◌≤◌, ◌<◌, List, [], ◌∷◌, ◌++◌, ◌≡◌, length, take, drop, replicate, T}
use Rattle.meaning.specs.Types.{Base, fix, str, path, sig, Ty, base, arr, dict, struct, variant, Tys, one, more, Raw, Of, Ofs, Var, Value, size, top, align_base, align}
use Rattle.meaning.specs.Signature.{spell, spell_all, legal, all_legal}
use Rattle.meaning.specs.Number.{store, gap}
use Rattle.meaning.specs.Text.{IsUtf8, no_zero, IsPath}
use Rattle.meaning.specs.declared.Order.{Order}

-- A layout: the bytes, by the offset that they begin at. One after the other:
abbrev pub Layout : Type 0
Layout = ℕ → List ℕ

infixr 60 ◌▹◌
unfoldable pub ◌▹◌ : Layout → Layout → Layout
◌▹◌ f g off = f off ++ g (off + length (f off))

-- "each value is aligned by its natural alignment, counted from the start of the message"; padding is zeros
unfoldable pub pad : ℕ → Layout
pad a off = replicate (gap a off) 0

abbrev pub raw : List ℕ → Layout
raw xs off = xs

unfoldable pub each : {A : Type 0} → (A → Layout) → List A → Layout
each f [] off = []
each f (v ∷ vs) off = (f v ▹ each f vs) off

-- an array's length field, "which does not include the padding to the first element"; that padding; the elements
unfoldable pub counted : Order → ℕ → Layout → Layout
counted o a f off = store o 4 (length (f (off + 4 + gap a (off + 4)))) ++ (pad a ▹ f) (off + 4)

-- a text: its length in w bytes, "not including its terminating nul", its bytes, a zero (S1)
unfoldable pub sized : Order → ℕ → List ℕ → List ℕ
sized o w v = store o w (length v) ++ (v ++ 0 ∷ [])

-- a basic value without its padding
unfoldable pub bare : Order → (c : Base) → Raw c → List ℕ
bare o (fix c) v = store o (size c) v
bare o str v = sized o 4 v
bare o path v = sized o 4 v
bare o sig v = sized o 1 v

unfoldable pub enc_base : Order → (c : Base) → Raw c → Layout
enc_base o c v = pad (align_base c) ▹ raw (bare o c v)

-- which basic values there are: a Boolean is 0 or 1, a string is UTF-8 with no zero byte, a path keeps the path rule, a signature is zero or
-- more legal types in at most 255 bytes (S5)
unfoldable pub OkBase : (c : Base) → Raw c → Type 0
OkBase (fix c) v = v < top c
OkBase str v = IsUtf8 v × T (no_zero v) × (length v < 256 ^ 4)
OkBase path v = IsUtf8 v × T (no_zero v) × (length v < 256 ^ 4) × IsPath v
OkBase sig v = (ts : List Ty) × T (all_legal ts) × (v ≡ spell_all ts) × (length v ≤ 255)

-- conditions go along with layouts
abbrev pub Cond : Type 1
Cond = ℕ → Type 0

abbrev pub ok_pad : ℕ → Cond → Cond
ok_pad a k off = k (off + gap a off)

abbrev pub ok_then : Layout → Cond → Cond → Cond
ok_then f k l off = k off × l (off + length (f off))

-- every element at its place
unfoldable pub Each : {A : Type 0} → (A → Layout) → (A → Cond) → List A → Cond
Each f k [] off = Unit {0}
Each f k (v ∷ vs) off = k v off × Each f k vs (off + length (f v off))

-- where the elements of an array begin, after its length field
abbrev pub first : ℕ → ℕ → ℕ
first a off = off + 4 + gap a (off + 4)

-- the lengths that an array may have: what 32 bits hold (K4: no 64 MiB limit)
unfoldable pub OkLength : ℕ → Type 0
OkLength n = n < 256 ^ 4

-- what stands behind a length field: good where it begins, and no longer than the field can say
abbrev pub ok_contents : ℕ → Layout → Cond → Cond
ok_contents a f k off = k (first a off) × OkLength (length (f (first a off)))

abbrev pub ok_counted : {A : Type 0} → ℕ → (A → Layout) → (A → Cond) → List A → Cond
ok_counted a f k vs = ok_contents a (each f vs) (Each f k vs)

-- a value of each type, where enc_w lays out a variant. K1: a dict outside an array is laid out as one in an array
module _ (o : Order) {W : Type 0} (enc_w : W → Layout) where
  unfoldable mutual
    pub enc : (t : Ty) → Of t W → Layout
    enc (base c) v = enc_base o c v
    enc (arr e) vs = pad 4 ▹ counted o (align e) (each (λ v. enc e v) vs)
    enc (dict f k e) vs = pad 4 ▹ counted o 8 (each (λ v. pad 8 ▹ enc_base o k v.0 ▹ enc e v.1) vs)
    enc (struct fs) v = pad 8 ▹ encs fs v
    enc variant w = enc_w w

    pub encs : (fs : Tys) → Ofs fs W → Layout
    encs (one e) v = enc e v
    encs (more e fs) v = enc e v.0 ▹ encs fs v.1

  module _ (ok_w : W → Cond) where
    unfoldable mutual
      pub Ok : (t : Ty) → Of t W → Cond
      Ok (base c) v = λ off. OkBase c v
      Ok (arr e) vs = ok_pad 4 (ok_counted (align e) (λ v. enc e v) (λ v. Ok e v) vs)
      Ok (dict f k e) vs = ok_pad 4 (ok_counted 8 (λ v. pad 8 ▹ enc_base o k v.0 ▹ enc e v.1)
          (λ v. ok_pad 8 (ok_then (enc_base o k v.0) (λ off. OkBase k v.0) (Ok e v.1))) vs)
      Ok (struct fs) v = ok_pad 8 (Oks fs v)
      Ok variant w = ok_w w

      pub Oks : (fs : Tys) → Ofs fs W → Cond
      Oks (one e) v = Ok e v
      Oks (more e fs) v = ok_then (enc e v.0) (Ok e v.0) (Oks fs v.1)

-- a variant: "the signature of a single complete type, followed by a marshaled value with the type given in the signature"
unfoldable pub enc_var : Order → (n : ℕ) → Var n → Layout
enc_var o zero w off = []
enc_var o (suc n) w off = (raw (bare o sig (spell w.0)) ▹ enc o (enc_var o n) w.0 w.1) off

unfoldable pub OkVar : Order → (n : ℕ) → Var n → Cond
OkVar o zero w off = ⊥
OkVar o (suc n) w off = T (legal w.0) × (length (spell w.0) ≤ 255)
    × ok_then (raw (bare o sig (spell w.0))) (λ p. Unit {0}) (Ok o (enc_var o n) (OkVar o n) w.0 w.1) off

-- a value of a type, with at most 16 variants within one another
unfoldable pub encode : Order → (t : Ty) → Value t → Layout
encode o t v = enc o (enc_var o 16) t v

unfoldable pub Fits : Order → (t : Ty) → Value t → Cond
Fits o t v = Ok o (enc_var o 16) (OkVar o 16) t v

-- Demand 2: "the n bytes at the offset encode a value of that type"
unfoldable pub Encodes : Order → Ty → List ℕ → ℕ → ℕ → Type 0
Encodes o t b off n = (off + n ≤ length b) × ((v : Value t) × Fits o t v off × (take n (drop off b) ≡ encode o t v off))
