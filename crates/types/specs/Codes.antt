-- The alignment and the fixed size of each type code, from the types' own: document 01, port order 4.
use Rattle.std.specs.Prelude.{ℕ}
use Rattle.meaning.specs.Types.{size, align_base, Base, fix, str, path, sig}
use Rattle.meaning.specs.Signature.{Tok, is_base, is_arr, is_var, is_open, is_close, is_curl, is_uncurl, is_bad, toks, find}

-- "y g v 1; n q 2; b i u h s o a 4; x t d ( 8"; 0 where no type begins
abbrev pub align_tok : Tok → ℕ
align_tok (is_base c) = align_base c
align_tok is_arr = 4
align_tok is_var = 1
align_tok is_open = 8
align_tok is_close = 0
align_tok is_curl = 0
align_tok is_uncurl = 0
align_tok is_bad = 0

-- something of a basic type, or what stands for any other
abbrev pub on_base : {A : Type 0} → (Base → A) → A → Tok → A
on_base f d (is_base c) = f c
on_base f d is_arr = d
on_base f d is_var = d
on_base f d is_open = d
on_base f d is_close = d
on_base f d is_curl = d
on_base f d is_uncurl = d
on_base f d is_bad = d

-- 0 where values of the type differ in size
abbrev pub size_base : Base → ℕ
size_base (fix c) = size c
size_base str = 0
size_base path = 0
size_base sig = 0

abbrev pub size_tok : Tok → ℕ
size_tok q = on_base size_base 0 q

unfoldable pub align_code : ℕ → ℕ
align_code x = align_tok (find toks x)

unfoldable pub size_code : ℕ → ℕ
size_code x = size_tok (find toks x)
