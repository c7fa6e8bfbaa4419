-- Where a type ends: past the codes of its arrays one code more, or all to the bracket that closes the first.
use Prim.Native.Nat.{ℕ, zero, suc, ◌+◌, ◌-◌, ◌<◌, ◌≤◌}
use native.Mathlib.Numerals.{add-one}
use native.Mathlib.Omega.{arith}
use mathlib.Core.Path.{◌≡◌, refl, ap, sym, ◌∙◌}
use mathlib.Core.Bool.{Bool, true, false, cond, ◌||◌}
use mathlib.Core.List.{List, [], ◌∷◌, ◌++◌, append_assoc}
use lib.Dec.{eqb}
use lib.ListN.{length, drop, get_or, length-append, take-append-drop}
use lib.Seq.{drop-cons}
use borrow.Author.Tests.{eq-eqb, ne_eqb}
use Rattle.meaning.specs.Types.{byte, bool, i16, u16, i32, u32, i64, u64, dbl, fd, Base, fix, str, path, sig, in_array, loose, Ty, base, arr, dict, struct, variant, Tys, one, more}
use Rattle.meaning.specs.Signature.{code, spell, spells}
use Rattle.meaning.specs.Places.{Typed, TypeAt}
use Rattle.signature.specs.Ends.{less, bracketed}

abbrev pub stop : ℕ → ℕ → ℕ
stop zero n = 0
stop (suc d) n = n

-- the bytes to the place where no bracket is open any more
unfoldable pub scan : List ℕ → ℕ → ℕ
scan [] d = 1
scan (c ∷ cs) d = suc (stop (bracketed c d) (scan cs (bracketed c d)))

-- the bytes of the type that stands first
unfoldable pub type_end : List ℕ → ℕ
type_end [] = 1
type_end (c ∷ cs) = cond (eqb c 97) (suc (type_end cs)) (scan (c ∷ cs) 0)

-- the code of a basic type is no bracket and no array's
record Plain (c : ℕ) : Type 0 where
  apart : eqb c 97 ≡ false
  keeps : (d : ℕ) → bracketed c d ≡ d

code-plain : (c : Base) → Plain (code c)
unfolding bracketed
code-plain (fix byte) = record { apart = refl; keeps = λ d. refl }
code-plain (fix bool) = record { apart = refl; keeps = λ d. refl }
code-plain (fix i16) = record { apart = refl; keeps = λ d. refl }
code-plain (fix u16) = record { apart = refl; keeps = λ d. refl }
code-plain (fix i32) = record { apart = refl; keeps = λ d. refl }
code-plain (fix u32) = record { apart = refl; keeps = λ d. refl }
code-plain (fix i64) = record { apart = refl; keeps = λ d. refl }
code-plain (fix u64) = record { apart = refl; keeps = λ d. refl }
code-plain (fix dbl) = record { apart = refl; keeps = λ d. refl }
code-plain (fix fd) = record { apart = refl; keeps = λ d. refl }
code-plain str = record { apart = refl; keeps = λ d. refl }
code-plain path = record { apart = refl; keeps = λ d. refl }
code-plain sig = record { apart = refl; keeps = λ d. refl }

-- a byte that keeps the brackets as they are
scan-plain : (c : ℕ) (cs : List ℕ) (d : ℕ) → bracketed c d ≡ d → scan (c ∷ cs) d ≡ suc (stop d (scan cs d))
unfolding scan
scan-plain c cs d e = rw e

-- a dict and a struct close what they open, once what they hold is passed whole
scan-entry : (k : Base) (e : Ty) (r : List ℕ) (d : ℕ) → scan (spell e ++ 125 ∷ r) (suc d) ≡ length (spell e) + scan (125 ∷ r) (suc d)
    → scan (123 ∷ code k ∷ ((spell e ++ 125 ∷ []) ++ r)) d ≡ length (123 ∷ code k ∷ (spell e ++ 125 ∷ [])) + stop d (scan r d)
unfolding scan bracketed
scan-entry k e r d h =
    ap suc (scan-plain (code k) ((spell e ++ 125 ∷ []) ++ r) (suc d) ((code-plain k).keeps (suc d)) ∙ ap (λ (l : List ℕ). suc (scan l (suc d))) (append_assoc (spell e) (125 ∷ []) r) ∙ ap suc h)
    ∙ omega (arith, length-append (spell e) (125 ∷ []))

scan-struct : (fs : Tys) (r : List ℕ) (d : ℕ) → scan (spells fs ++ 41 ∷ r) (suc d) ≡ length (spells fs) + scan (41 ∷ r) (suc d)
    → scan (40 ∷ ((spells fs ++ 41 ∷ []) ++ r)) d ≡ length (40 ∷ (spells fs ++ 41 ∷ [])) + stop d (scan r d)
unfolding scan bracketed
scan-struct fs r d h =
    ap suc (ap (λ (l : List ℕ). scan l (suc d)) (append_assoc (spells fs) (41 ∷ []) r) ∙ h)
    ∙ omega (arith, length-append (spells fs) (41 ∷ []))

-- inside a bracket a type is passed whole
mutual
  unfolding spell scan bracketed

  scan-type : (t : Ty) (r : List ℕ) (d : ℕ) → scan (spell t ++ r) (suc d) ≡ length (spell t) + scan r (suc d)
  scan-type (base c) r d = scan-plain (code c) r (suc d) ((code-plain c).keeps (suc d)) ∙ omega arith
  scan-type (arr e) r d = omega (arith, scan-type e r d)
  scan-type (dict in_array k e) r d = omega (arith, scan-entry k e r (suc d) (scan-type e (125 ∷ r) (suc d)))
  scan-type (dict loose k e) r d = scan-entry k e r (suc d) (scan-type e (125 ∷ r) (suc d)) ∙ omega arith
  scan-type (struct fs) r d = scan-struct fs r (suc d) (scan-types fs (41 ∷ r) (suc d)) ∙ omega arith
  scan-type variant r d = omega arith

  scan-types : (fs : Tys) (r : List ℕ) (d : ℕ) → scan (spells fs ++ r) (suc d) ≡ length (spells fs) + scan r (suc d)
  scan-types (one e) r d = scan-type e r d
  scan-types (more e fs) r d =
      ap (λ (l : List ℕ). scan l (suc d)) (append_assoc (spell e) (spells fs) r)
      ∙ scan-type e (spells fs ++ r) d
      ∙ omega (arith, scan-types fs r d, length-append (spell e) (spells fs))

end-type : (t : Ty) (r : List ℕ) → type_end (spell t ++ r) ≡ length (spell t)
unfolding spell type_end scan bracketed
end-type (base c) r = rw (code-plain c).apart (scan-plain (code c) r 0 ((code-plain c).keeps 0))
end-type (arr e) r = ap suc (end-type e r)
end-type (dict in_array k e) r = ap suc (scan-entry k e r 0 (scan-type e (125 ∷ r) 0) ∙ omega arith)
end-type (dict loose k e) r = scan-entry k e r 0 (scan-type e (125 ∷ r) 0) ∙ omega arith
end-type (struct fs) r = scan-struct fs r 0 (scan-types fs (41 ∷ r) 0) ∙ omega arith
end-type variant r = refl

-- a type at a place ends where its bytes do
pub ends_at : {t : Ty} {s : List ℕ} {p e : ℕ} → TypeAt t s p e → p + type_end (drop p s) ≡ e
ends_at {t} {s} {p} {e} h =
    let n = length (spell t) in
    let q : drop p s ≡ spell t ++ drop n (drop p s) = sym (take-append-drop n (drop p s)) ∙ ap (λ (l : List ℕ). l ++ drop n (drop p s)) h.spelled.same in
    omega (arith, ap type_end q ∙ end-type t (drop n (drop p s)), h.spelled.ends)

-- at least one byte is left
scan-some : (l : List ℕ) (d : ℕ) → 1 ≤ scan l d
unfolding scan
scan-some [] d = omega arith
scan-some (c ∷ cs) d = omega arith

end-some : (l : List ℕ) → 1 ≤ type_end l
unfolding type_end
end-some [] = omega arith
end-some (c ∷ cs) = go (eqb c 97)
  where
    go : (b : Bool) → 1 ≤ cond b (suc (type_end cs)) (scan (c ∷ cs) 0)
    go true = omega arith
    go false = scan-some (c ∷ cs) 0

-- an array's code
pub end-array : (s : List ℕ) (i : ℕ) → i < length s → get_or s i 0 ≡ 97 → i + type_end (drop i s) ≡ i + 1 + type_end (drop (i + 1) s)
unfolding type_end
end-array s i h e =
    let q : type_end (drop i s) ≡ suc (type_end (drop (suc i) s)) = ap type_end (drop-cons s i 0 h) ∙ rw (eq-eqb (get_or s i 0) 97 e) refl in
    rw add-one (omega (arith, q))

-- the first code after them
pub end-first : (s : List ℕ) (i : ℕ) → i < length s → (get_or s i 0 ≡ 97 → ⊥) → i + type_end (drop i s) ≡ i + 1 + stop (bracketed (get_or s i 0) 0) (scan (drop (i + 1) s) (bracketed (get_or s i 0) 0))
unfolding type_end scan
end-first s i h e =
    let q : type_end (drop i s) ≡ suc (stop (bracketed (get_or s i 0) 0) (scan (drop (suc i) s) (bracketed (get_or s i 0) 0))) = ap type_end (drop-cons s i 0 h) ∙ rw (ne_eqb (get_or s i 0) 97 e) refl in
    rw add-one (omega (arith, q))

-- a byte inside brackets
pub end-next : (s : List ℕ) (i d : ℕ) → i < length s → (d ≡ 0 → ⊥) → i + stop d (scan (drop i s) d) ≡ i + 1 + stop (bracketed (get_or s i 0) d) (scan (drop (i + 1) s) (bracketed (get_or s i 0) d))
unfolding scan
end-next s i zero h e = absurd (e refl)
end-next s i (suc d) h e =
    let q : scan (drop i s) (suc d) ≡ suc (stop (bracketed (get_or s i 0) (suc d)) (scan (drop (suc i) s) (bracketed (get_or s i 0) (suc d)))) = ap (λ (l : List ℕ). scan l (suc d)) (drop-cons s i 0 h) in
    rw add-one (omega (arith, q))

inside-some : (l : List ℕ) (d : ℕ) → (d ≡ 0 → ⊥) → 1 ≤ stop d (scan l d)
inside-some l zero e = absurd (e refl)
inside-some l (suc d) e = scan-some l (suc d)

-- where something is left, a byte stands
module _ {s : List ℕ} {p : ℕ} (h : Typed s p) (i : ℕ) where
  within : (n : ℕ) → 1 ≤ n → i + n ≡ p + type_end (drop p s) → i < length s
  within n l e = omega (arith, ends_at h.stands, h.stands.spelled.within)

  pub first-within : i + type_end (drop i s) ≡ p + type_end (drop p s) → i < length s
  first-within e = within (type_end (drop i s)) (end-some (drop i s)) e

  pub next-within : (d : ℕ) → (d ≡ 0 → ⊥) → i + stop d (scan (drop i s) d) ≡ p + type_end (drop p s) → i < length s
  next-within d f e = within (stop d (scan (drop i s) d)) (inside-some (drop i s) d f) e

pub stopped : (d n : ℕ) → d ≡ 0 → stop d n ≡ 0
stopped d n e = rw e

-- a byte opens one bracket at most
pub bracket-one : (c d : ℕ) → bracketed c d ≤ d + 1
unfolding bracketed
bracket-one c d = go (eqb c 40 || eqb c 123) (eqb c 41 || eqb c 125) d
  where
    go : (a b : Bool) (d : ℕ) → cond a (suc d) (cond b (less d) d) ≤ d + 1
    go true b d = omega arith
    go false true zero = omega arith
    go false true (suc d) = omega arith
    go false false d = omega arith

pub less-sub : (d : ℕ) → d - 1 ≡ less d
less-sub zero = refl
less-sub (suc d) = omega arith
