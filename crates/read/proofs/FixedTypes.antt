-- Which signatures name a fixed type: those of one byte whose code has a fixed size in the table.
use Prim.Native.Nat.{ℕ}
use native.Mathlib.Omega.{arith}
use mathlib.Core.List.{List, [], ◌∷◌}
use mathlib.Core.Path.{◌≡◌, refl, ap, sym, ◌∙◌}
use lib.ListN.{length, get_or}
use Rattle.meaning.specs.Types.{Fix, byte, bool, i16, u16, i32, u32, i64, u64, dbl, fd, Base, fix, str, path, sig, Ty, base, arr, dict, struct, variant, size}
use Rattle.meaning.specs.Signature.{code_fix, Tok, is_base, is_arr, is_var, is_open, is_close, is_curl, is_uncurl, is_bad, toks, find, put_base, put, step, run, Parsed, types, refused, parse, spell, spell_all, nest, all_nest}
use Rattle.meaning.specs.ReadValue.{the, only_one}
use Rattle.meaning.specs.FixedValue.{OptFix, the_fix, not_fix, only_fix}
use Rattle.meaning.proofs.SignatureLaws.{find-base, parse-sound}
use Rattle.types.specs.Codes.{on_base, size_code, size_tok}
use Rattle.types.proofs.CodeLaws.{size-fix, size-is-alignment}
use Rattle.read.specs.Coded.{Coded}

-- no two types have one code
pub same_code : (x : ℕ) (c d : Fix) → x ≡ code_fix c → x ≡ code_fix d → c ≡ d
same_code x c d p q =
    let e : is_base (fix c) ≡ is_base (fix d) = sym (find-base (fix c)) ∙ ap (λ (y : ℕ). find toks y) (sym p ∙ q) ∙ find-base (fix d) in
    cc

-- the fixed type that a signature is
abbrev pub named : List ℕ → OptFix
named s = only_fix (only_one (parse s))

-- what a byte that is the whole signature names
abbrev fix_base : Base → OptFix
fix_base (fix c) = the_fix c
fix_base str = not_fix
fix_base path = not_fix
fix_base sig = not_fix

abbrev fix_tok : Tok → OptFix
fix_tok q = on_base fix_base not_fix q

one_byte : (x : ℕ) → named (x ∷ []) ≡ fix_tok (find toks x)
unfolding parse run step put_base put all_nest nest
one_byte x = go (find toks x) refl
  where
    go : (k : Tok) → find toks x ≡ k → named (x ∷ []) ≡ fix_tok (find toks x)
    go (is_base (fix c)) e = rw (e, run)
    go (is_base str) e = rw (e, run)
    go (is_base path) e = rw (e, run)
    go (is_base sig) e = rw (e, run)
    go is_arr e = rw (e, run)
    go is_var e = rw (e, run)
    go is_open e = rw (e, run)
    go is_close e = rw (e, run)
    go is_curl e = rw (e, run)
    go is_uncurl e = rw (e, run)
    go is_bad e = rw (e, run)

-- a signature that names a fixed type spells it
spelled : (s : List ℕ) (c : Fix) → named s ≡ the_fix c → s ≡ code_fix c ∷ []
unfolding spell_all spell
spelled s c e = go (parse s) refl
  where
    no : not_fix ≡ the_fix c → s ≡ code_fix c ∷ []
    no h = absurd (let z : ◌≡◌ {A = ℕ} 0 1 = cc in omega arith)

    one' : (t : Ty) → parse s ≡ types (t ∷ []) → only_fix (the t) ≡ the_fix c → s ≡ code_fix c ∷ []
    one' (base (fix d)) q h = let z : d ≡ c = cc in (parse-sound s (base (fix d) ∷ []) q).1 ∙ ap (λ (y : Fix). code_fix y ∷ []) z
    one' (base str) q h = no h
    one' (base path) q h = no h
    one' (base sig) q h = no h
    one' (arr t) q h = no h
    one' (dict f k t) q h = no h
    one' (struct fs) q h = no h
    one' variant q h = no h

    go : (p : Parsed) → parse s ≡ p → s ≡ code_fix c ∷ []
    go (types []) q = no (rw q at e)
    go (types (t ∷ [])) q = one' t q (rw q at e)
    go (types (t ∷ u ∷ us)) q = no (rw q at e)
    go (refused n) q = no (rw q at e)

-- a code with a fixed size is a fixed type's
pub is-fixed : (x : ℕ) → (size_code x ≡ 0 → ⊥) → Coded x
unfolding size_code
is-fixed x h = go (find toks x) refl
  where
    go : (k : Tok) → find toks x ≡ k → Coded x
    go (is_base (fix c)) e = record { type = c; coded = let z : x ∷ [] ≡ code_fix c ∷ [] = spelled (x ∷ []) c (one_byte x ∙ ap fix_tok e) in cc }
    go (is_base str) e = absurd (h (ap size_tok e))
    go (is_base path) e = absurd (h (ap size_tok e))
    go (is_base sig) e = absurd (h (ap size_tok e))
    go is_arr e = absurd (h (ap size_tok e))
    go is_var e = absurd (h (ap size_tok e))
    go is_open e = absurd (h (ap size_tok e))
    go is_close e = absurd (h (ap size_tok e))
    go is_curl e = absurd (h (ap size_tok e))
    go is_uncurl e = absurd (h (ap size_tok e))
    go is_bad e = absurd (h (ap size_tok e))

has-size : (c : Fix) → size c ≡ 0 → ⊥
has-size c h = rw h at (size-is-alignment c)

pub size_of : (x : ℕ) (c : Fix) → x ≡ code_fix c → size_code x ≡ size c
size_of x c e = ap size_code e ∙ size-fix c

-- no signature but a fixed type's one byte names one
no_other : (s : List ℕ) → ((c : Fix) → s ≡ code_fix c ∷ [] → ⊥) → named s ≡ not_fix
no_other s h = go (named s) refl
  where
    go : (k : OptFix) → named s ≡ k → named s ≡ not_fix
    go (the_fix c) e = absurd (h c (spelled s c e))
    go not_fix e = e

pub not-one : (s : List ℕ) → (length s ≡ 1 → ⊥) → named s ≡ not_fix
not-one s h = no_other s (λ c e. h (ap length e))

pub no_size : (s : List ℕ) → size_code (get_or s 0 0) ≡ 0 → named s ≡ not_fix
no_size s h = no_other s (λ c e. has-size c (sym (size_of (get_or s 0 0) c (ap (λ (l : List ℕ). get_or l 0 0) e)) ∙ h))

single : (s : List ℕ) → length s ≡ 1 → s ≡ get_or s 0 0 ∷ []
single [] h = absurd (omega arith)
single (x ∷ []) h = refl
single (x ∷ y ∷ ys) h = absurd (omega arith)

pub names : (s : List ℕ) (c : Fix) → length s ≡ 1 → get_or s 0 0 ≡ code_fix c → named s ≡ the_fix c
names s c h e = ap named (single s h) ∙ one_byte (get_or s 0 0) ∙ ap (λ (x : ℕ). fix_tok (find toks x)) e ∙ ap fix_tok (find-base (fix c))

-- what is right of the type that the code was matched with is right of the type that has this code
pub told : {A : Type 0} (f : Fix → A) (x : ℕ) (c : Fix) (v : A) → x ≡ code_fix c → v ≡ f c → (d : Fix) → x ≡ code_fix d → v ≡ f d
told f x c v p e d q = e ∙ ap f (same_code x c d p q)

-- the type that a code and its fixed size in the table tell
pub record Chosen (x w : ℕ) : Type 0 where
  pub type : Fix
  pub coded : x ≡ code_fix type
  pub wide : w ≡ size type

pub chosen : (x w : ℕ) → w ≡ size_code x → (w ≡ 0 → ⊥) → Chosen x w
chosen x w e h =
    let k : Coded x = is-fixed x (λ z. h (e ∙ z)) in
    record { type = k.type; coded = k.coded; wide = e ∙ size_of x k.type k.coded }

-- none of these numbers
abbrev pub NoneOf : ℕ → List ℕ → Type 0
NoneOf x [] = Unit {0}
NoneOf x (k ∷ ks) = NoneOf x ks × (x ≡ k → ⊥)

-- the only code left
pub is-fd : (x : ℕ) (c : Fix) → x ≡ code_fix c → NoneOf x (100 ∷ 116 ∷ 120 ∷ 117 ∷ 105 ∷ 113 ∷ 110 ∷ 98 ∷ 121 ∷ []) → x ≡ code_fix fd
is-fd x byte e h = absurd (h.0.0.0.0.0.0.0.0.1 e)
is-fd x bool e h = absurd (h.0.0.0.0.0.0.0.1 e)
is-fd x i16 e h = absurd (h.0.0.0.0.0.0.1 e)
is-fd x u16 e h = absurd (h.0.0.0.0.0.1 e)
is-fd x i32 e h = absurd (h.0.0.0.0.1 e)
is-fd x u32 e h = absurd (h.0.0.0.1 e)
is-fd x i64 e h = absurd (h.0.0.1 e)
is-fd x u64 e h = absurd (h.0.1 e)
is-fd x dbl e h = absurd (h.1 e)
is-fd x fd e h = e
