-- The types of the Specification ("Type System"), and the values of each. Alignments and sizes stand here, by type.
use Rattle.std.specs.Prelude.{ℕ, zero, suc, ◌^◌, List}

-- the basic types of fixed size
pub data Fix : Type 0 where
  byte bool i16 u16 i32 u32 i64 u64 dbl fd : Fix

-- "The string-like types are basic types with a variable length"
pub data Base : Type 0 where
  fix : Fix → Base
  str path sig : Base

-- a dict stands in an array or, kept from the crate (K1), alone
pub data Form : Type 0 where
  in_array loose : Form

mutual
  pub data Ty : Type 0 where
    base : Base → Ty
    arr : Ty → Ty
    dict : Form → Base → Ty → Ty
    struct : Tys → Ty
    variant : Ty

  pub data Tys : Type 0 where
    one : Ty → Tys
    more : Ty → Tys → Tys

-- a basic value: the bits of a number, or the bytes of a text
abbrev pub Raw : Base → Type 0
Raw (fix c) = ℕ
Raw str = List ℕ
Raw path = List ℕ
Raw sig = List ℕ

-- the values of a type, given what a variant holds. An array's elements are of its type by construction
abbrev mutual
  pub Of : Ty → Type 0 → Type 0
  Of (base c) W = Raw c
  Of (arr e) W = List (Of e W)
  Of (dict f k e) W = List (Raw k × Of e W)
  Of (struct fs) W = Ofs fs W
  Of variant W = W

  pub Ofs : Tys → Type 0 → Type 0
  Ofs (one e) W = Of e W
  Ofs (more e fs) W = Of e W × Ofs fs W

-- what a variant holds, with n variants left to nest: a type and a value of it. 16: "a 17th variant" is none
abbrev pub Var : ℕ → Type 0
Var zero = ⊥
Var (suc n) = (e : Ty) × Of e (Var n)

abbrev pub Value : Ty → Type 0
Value t = Of t (Var 16)

-- the bytes of a fixed type
abbrev pub size : Fix → ℕ
size byte = 1
size bool = 4
size i16 = 2
size u16 = 2
size i32 = 4
size u32 = 4
size i64 = 8
size u64 = 8
size dbl = 8
size fd = 4

abbrev pub align_base : Base → ℕ
align_base (fix c) = size c
align_base str = 4
align_base path = 4
align_base sig = 1

-- "y g v 1; n q 2; b i u h s o a 4; x t d ( 8"
abbrev pub align : Ty → ℕ
align (base c) = align_base c
align (arr e) = 4
align (dict f k e) = 4
align (struct fs) = 8
align variant = 1

-- the numbers that a fixed type holds are those below this
abbrev pub top : Fix → ℕ
top byte = 256
top bool = 2
top i16 = 256 ^ 2
top u16 = 256 ^ 2
top i32 = 256 ^ 4
top u32 = 256 ^ 4
top i64 = 256 ^ 8
top u64 = 256 ^ 8
top dbl = 256 ^ 8
top fd = 256 ^ 4

-- arrays of these are tested for a whole number of elements first: the element's size, or 1 where there is no such test
abbrev pub whole_fix : Fix → ℕ
whole_fix bool = 1
whole_fix i32 = 1
whole_fix byte = 1
whole_fix i16 = 2
whole_fix u16 = 2
whole_fix u32 = 4
whole_fix i64 = 8
whole_fix u64 = 8
whole_fix dbl = 8
whole_fix fd = 4

abbrev pub whole_base : Base → ℕ
whole_base (fix c) = whole_fix c
whole_base str = 1
whole_base path = 1
whole_base sig = 1

abbrev pub whole : Ty → ℕ
whole (base c) = whole_base c
whole (arr e) = 1
whole (dict f k e) = 1
whole (struct fs) = 1
whole variant = 1
