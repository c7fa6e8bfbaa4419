-- Alignments and sizes by code are those of the types: what callers of `align` and `size` cite.
use Prim.Native.Nat.{ℕ}
use mathlib.Core.Path.{◌≡◌, refl, ap}
use lib.Dec.{T}
use lib.ListN.{get_or}
use mathlib.Core.Path.{◌∙◌}
use Rattle.meaning.specs.Types.{Fix, byte, bool, i16, u16, i32, u32, i64, u64, dbl, fd, Base, fix, str, path, sig, in_array, loose, Ty, base, arr, dict, struct, variant, size, align_base, align}
use Rattle.meaning.specs.Signature.{code, code_fix, spell, not_loose, find}
use Rattle.meaning.specs.Writers.{is_alignment}
use Rattle.meaning.proofs.SignatureLaws.{find-base}
use Rattle.types.specs.Codes.{align_tok, size_tok, align_code, size_code}

pub align-base : (c : Base) → align_code (code c) ≡ align_base c
unfolding align_code
align-base c = ap align_tok (find-base c)

pub size-fix : (c : Fix) → size_code (code_fix c) ≡ size c
unfolding size_code
size-fix c = ap size_tok (find-base (fix c))

pub align-array : align_code 97 ≡ 4
unfolding align_code find
align-array = refl

pub align-variant : align_code 118 ≡ 1
unfolding align_code find
align-variant = refl

pub align-struct : align_code 40 ≡ 8
unfolding align_code find
align-struct = refl

-- what code learns that reads the table at the code of an array, of a struct, and of a length
pub array-aligns : {a : ℕ} → a ≡ align_code 97 → T (is_alignment a)
array-aligns e = rw (e, align-array) tt

pub struct-aligns : {a : ℕ} → a ≡ align_code 40 → T (is_alignment a)
struct-aligns e = rw (e, align-struct) tt

pub size-length : size_code 117 ≡ 4
size-length = size-fix u32

-- a type's alignment is that of its first code; only a dict alone, whose first code is its bracket, is outside the table
pub align-first : (t : Ty) → T (not_loose t) → align_code (get_or (spell t) 0 0) ≡ align t
unfolding spell
align-first (base c) h = align-base c
align-first (arr e) h = align-array
align-first (dict in_array k e) h = align-array
align-first (dict loose k e) h = absurd h
align-first (struct fs) h = align-struct
align-first variant h = align-variant

pub size-is-alignment : (c : Fix) → T (is_alignment (size c))
size-is-alignment byte = tt
size-is-alignment bool = tt
size-is-alignment i16 = tt
size-is-alignment u16 = tt
size-is-alignment i32 = tt
size-is-alignment u32 = tt
size-is-alignment i64 = tt
size-is-alignment u64 = tt
size-is-alignment dbl = tt
size-is-alignment fd = tt

pub base-is-alignment : (c : Base) → T (is_alignment (align_base c))
base-is-alignment (fix c) = size-is-alignment c
base-is-alignment str = tt
base-is-alignment path = tt
base-is-alignment sig = tt

-- every type is aligned to 1, 2, 4 or 8
pub is-alignment : (t : Ty) → T (is_alignment (align t))
is-alignment (base c) = base-is-alignment c
is-alignment (arr e) = tt
is-alignment (dict f k e) = tt
is-alignment (struct fs) = tt
is-alignment variant = tt

-- what the table says of the code of a fixed-size type: its size, which is its alignment too
pub size_is : (c : Fix) (n : ℕ) → n ≡ size_code (code_fix c) → n ≡ size c
size_is c n h = h ∙ size-fix c

pub size-aligns : (c : Fix) (n : ℕ) → n ≡ size_code (code_fix c) → T (is_alignment n)
size-aligns c n h = rw (size_is c n h) (size-is-alignment c)
