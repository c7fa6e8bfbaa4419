-- The path rule, byte by byte as the code goes, by the class of each.
use Prim.Native.Nat.{ℕ, ◌+◌, ◌≤◌, ◌<◌}
use native.Mathlib.Omega.{arith}
use mathlib.Core.Bool.{Bool, true, false, not}
use mathlib.Core.List.{List, [], ◌∷◌}
use mathlib.Core.Path.{◌≡◌, refl, ap, sym, ◌∙◌}
use lib.Dec.{eqb}
use lib.ListN.{length, drop, get_or, drop_of_length-le}
use borrow.Author.Tests.{eq-eqb, ne_eqb}
use Rattle.meaning.specs.Text.{name_byte, names, is_path}
use denote.Enum.Bare.{same_true}
use Rattle.text.specs.contracts.Class.{the_type}
use Rattle.text.specs.declared.Class.{Class}
use Rattle.text.specs.declared.Class.TheVariants.{Name, Slash}
use Rattle.text.proofs.Classes.{Says, is}
use Rattle.text.proofs.Scans.{front}

is_one : (j k : Class) → is j k ≡ true → j ≡ k
is_one j k e = same_true the_type tt j k e

-- one turn: u is whether the whole is in order, after says whether a slash came last, k is the byte's class
module _ (s : List ℕ) (i : ℕ) (h : i < length s) (u after : Bool) (e : u ≡ names (drop i s) after) (k : Class) (y : Says (get_or s i 0) k) where
  at_byte : u ≡ names (get_or s i 0 ∷ drop (i + 1) s) after
  at_byte = e ∙ ap (λ (l : List ℕ). names l after) (front s i h)

  by_name : (a : Bool) → name_byte (get_or s i 0) ≡ true → eqb (get_or s i 0) 47 ≡ false
      → names (get_or s i 0 ∷ drop (i + 1) s) a ≡ names (drop (i + 1) s) false
  unfolding names
  by_name true n l = rw n
  by_name false n l = rw (l, n, names)

  pub name-on : is k Name ≡ true → u ≡ names (drop (i + 1) s) false
  name-on q =
      let e : k ≡ Name = is_one k Name q in
      at_byte ∙ by_name after (y.named ∙ q) (y.slash ∙ ap (λ (j : Class). is j Slash) e)

  pub slash-on : is k Slash ≡ true → after ≡ false → u ≡ names (drop (i + 1) s) true
  unfolding names
  slash-on q a =
      let l : eqb (get_or s i 0) 47 ≡ true = y.slash ∙ q in
      at_byte ∙ rw (a, l, names)

  pub slash-twice : is k Slash ≡ true → after ≡ true → u ≡ false
  unfolding names
  slash-twice q a =
      let n : name_byte (get_or s i 0) ≡ false = y.named ∙ ap (λ (j : Class). is j Name) (is_one k Slash q) in
      at_byte ∙ rw (a, n)

  by-other : (a : Bool) → name_byte (get_or s i 0) ≡ false → eqb (get_or s i 0) 47 ≡ false → names (get_or s i 0 ∷ drop (i + 1) s) a ≡ false
  unfolding names
  by-other true n l = rw n
  by-other false n l = rw (l, n, names)

  pub other-stop : is k Name ≡ false → is k Slash ≡ false → u ≡ false
  other-stop p q = at_byte ∙ by-other after (y.named ∙ p) (y.slash ∙ q)

pub names-end : (s : List ℕ) (i : ℕ) (after : Bool) → length s ≤ i → names (drop i s) after ≡ not after
unfolding names
names-end s i true h = rw (drop_of_length-le s h)
names-end s i false h = rw (drop_of_length-le s h)

-- the whole, by its first byte and its length
pub path-root : (s : List ℕ) → get_or s 0 0 ≡ 47 → length s ≡ 1 → true ≡ is_path s
unfolding is_path
path-root [] n h = absurd (omega arith)
path-root (c ∷ []) n h = sym (eq-eqb c 47 n)
path-root (c ∷ d ∷ ds) n h = absurd (omega arith)

pub path-rest : (s : List ℕ) → get_or s 0 0 ≡ 47 → 2 ≤ length s → names (drop 1 s) true ≡ is_path s
unfolding is_path
path-rest [] n h = absurd (omega arith)
path-rest (c ∷ []) n h = absurd (omega arith)
path-rest (c ∷ d ∷ ds) n h = rw (eq-eqb c 47 n)

pub path-empty : (s : List ℕ) → length s ≡ 0 → false ≡ is_path s
unfolding is_path
path-empty [] h = refl
path-empty (c ∷ cs) h = absurd (omega arith)

pub path-none : (s : List ℕ) → (get_or s 0 0 ≡ 47 → ⊥) → false ≡ is_path s
unfolding is_path
path-none [] n = refl
path-none (c ∷ []) n = sym (ne_eqb c 47 n)
path-none (c ∷ d ∷ ds) n = rw (ne_eqb c 47 n)
