-- Document 01, "Bytes to try": the starred cases, computed from the definitions. One table, one claim.
use Prim.Native.Nat.{ℕ}
use mathlib.Core.List.{List, [], ◌∷◌, map}
use mathlib.Core.Path.{◌≡◌, refl}
use lib.IntN.{negsuc}
use lib.ListN.{replicate}
use Rattle.meaning.specs.Types.{fix, i16, u16, base, arr, struct, one, more}
use Rattle.meaning.specs.Value.{◌▹◌, pad, each, counted, bare, enc_base, enc, enc_var, encode}
use Rattle.meaning.specs.Reader.{got, ret, here, fail, ◌>>=◌, check, bytes, ahead, window, many}
use Rattle.meaning.specs.Signature.{spell, nest, shape, legal, find, snoc, put, put_base, step, run, all_nest, parse}
use Rattle.meaning.specs.Number.{digits, value, store, load, gap, zeros}
use Rattle.meaning.specs.Text.{lead, scan, utf8, no_zero, names, is_path}
use Rattle.meaning.specs.ReadValue.{taken, no, padding, read_fix, sized_r, read_text, read_path, read_sig, accept, read_g, bare_r, base_r, elements, length_r, array_of, array_r, pair_r, read, single, variant_of, read_var, read_top, check_at, check_value}
use Rattle.meaning.specs.declared.Fault.TheVariants.{NotEnoughBytes, NotEnoughBytesForCollection, PaddingContainedData, InvalidBoolean, MissingTerminator}
use Rattle.meaning.specs.FixedValue.{fixed_value, read_fixed}
use Rattle.std.specs.Prelude.{Result, Ok}
use Rattle.meaning.specs.declared.Length.{Length}
use Rattle.meaning.specs.declared.Refusal.{Refusal}
use Rattle.meaning.specs.declared.FixedValue.TheVariants.{Int16}
use Rattle.meaning.specs.declared.Order.TheVariants.{Little}

pub record Case : Type 0 where
  pub type : List ℕ
  pub from : ℕ
  pub buf : List ℕ
  pub answer : Result Length Refusal

abbrev pub try : List ℕ → ℕ → List ℕ → Result Length Refusal → Case
try s off b r = record { type = s; from = off; buf = b; answer = r }

abbrev pub cases : List Case
cases =
    try (121 ∷ []) 0 [] (no NotEnoughBytes 0)
    ∷ try (117 ∷ []) 1 (0 ∷ 0 ∷ 0 ∷ 0 ∷ []) (no NotEnoughBytes 4)
    ∷ try (98 ∷ []) 0 (1 ∷ 0 ∷ 0 ∷ 0 ∷ []) (taken 4)
    ∷ try (98 ∷ []) 0 (2 ∷ 0 ∷ 0 ∷ 0 ∷ []) (no InvalidBoolean 0)
    ∷ try (115 ∷ []) 0 (2 ∷ 0 ∷ 0 ∷ 0 ∷ 0x6b ∷ 0x31 ∷ 0 ∷ []) (taken 7)
    ∷ try (115 ∷ []) 0 (2 ∷ 0 ∷ 0 ∷ 0 ∷ 0x6b ∷ 0x31 ∷ 1 ∷ []) (no MissingTerminator 0)
    ∷ try (97 ∷ 117 ∷ []) 0 (6 ∷ 0 ∷ 0 ∷ 0 ∷ replicate 6 0) (no NotEnoughBytes 4)
    ∷ try (97 ∷ 105 ∷ []) 0 (6 ∷ 0 ∷ 0 ∷ 0 ∷ replicate 6 0) (no NotEnoughBytes 8)
    ∷ try (97 ∷ 40 ∷ 121 ∷ 41 ∷ []) 0 (0 ∷ 0 ∷ 0 ∷ 0 ∷ 0x64 ∷ 0 ∷ 0 ∷ 0 ∷ []) (no PaddingContainedData 4)
    ∷ try (97 ∷ 40 ∷ 121 ∷ 41 ∷ []) 0 (1 ∷ 0 ∷ 0 ∷ 0 ∷ 0 ∷ 0 ∷ 0 ∷ 0 ∷ []) (no NotEnoughBytesForCollection 8)
    ∷ try (118 ∷ []) 0 (1 ∷ 0x79 ∷ 0 ∷ 0xff ∷ []) (taken 4)
    ∷ try (97 ∷ 40 ∷ 113 ∷ 113 ∷ 110 ∷ 41 ∷ []) 0
    (0x0e ∷ 0 ∷ 0 ∷ 0 ∷ 0 ∷ 0 ∷ 0 ∷ 0 ∷ 1 ∷ 0 ∷ 2 ∷ 0 ∷ 0xff ∷ 0xff ∷ 0 ∷ 0 ∷ 3 ∷ 0 ∷ 4 ∷ 0 ∷ 0x14 ∷ 0 ∷ []) (taken 22)
    ∷ []

pub starred : map (λ c. check_value Little c.type c.buf c.from) cases ≡ map (λ c. c.answer) cases
unfolding ret here fail ◌>>=◌ check bytes ahead window many spell nest shape legal find snoc put put_base step run all_nest parse digits value store
    load gap zeros lead scan utf8 no_zero names is_path padding read_fix sized_r read_text read_path read_sig accept read_g bare_r base_r elements length_r
    array_of array_r pair_r read single variant_of read_var read_top check_at check_value
starred = refl

-- the value of the last starred case, and its bytes again
abbrev kern_bytes : List ℕ
kern_bytes = 0x0e ∷ 0 ∷ 0 ∷ 0 ∷ 0 ∷ 0 ∷ 0 ∷ 0 ∷ 1 ∷ 0 ∷ 2 ∷ 0 ∷ 0xff ∷ 0xff ∷ 0 ∷ 0 ∷ 3 ∷ 0 ∷ 4 ∷ 0 ∷ 0x14 ∷ 0 ∷ []

pub kerns : read_top Little (arr (struct (more (base (fix u16)) (more (base (fix u16)) (one (base (fix i16))))))) kern_bytes 0 ≡ got ((1, (2, 0xffff)) ∷ (3, (4, 0x14)) ∷ []) 22
unfolding ret here fail ◌>>=◌ check bytes ahead window many digits value store load gap zeros padding read_fix bare_r base_r elements length_r array_of array_r pair_r read read_var read_top
kerns = refl

-- "first kern -1": the value reader on the two bytes from 12 on, where `negsuc 0` is -1
pub first-kern : read_fixed Little (110 ∷ []) kern_bytes 12 ≡ Ok (Int16 (negsuc 0))
unfolding ret here fail ◌>>=◌ check bytes spell nest shape legal find snoc put put_base step run all_nest parse digits value load gap zeros padding
    read_fix bare_r base_r fixed_value read_fixed
first-kern = refl

pub kerns-back : encode Little (arr (struct (more (base (fix u16)) (more (base (fix u16)) (one (base (fix i16))))))) ((1, (2, 0xffff)) ∷ (3, (4, 0x14)) ∷ []) 0 ≡ kern_bytes
unfolding digits store gap ◌▹◌ pad each counted bare enc_base enc enc_var encode
kerns-back = refl
