-- `padding` by the ways through the code, and `gap` at each alignment.
use Prim.Native.Nat.{ℕ, ◌+◌, ◌-◌, ◌≤◌, ◌<◌}
use native.Mathlib.Omega.{arith}
use mathlib.Core.Bool.{Bool, true, false}
use mathlib.Core.List.{List, [], ◌∷◌}
use mathlib.Core.Path.{◌≡◌, refl, ap, sym, ◌∙◌}
use lib.Dec.{T, eqb}
use lib.ListN.{length, take, drop}
use lib.Seq.{length-take-le}
use borrow.Author.Tests.{ne_eqb, eqb-true}
use Rattle.meaning.specs.Number.{gap, zeros}
use Rattle.meaning.specs.Faults.{refusal}
use Rattle.meaning.specs.Reader.{got, stop, R, ◌>>=◌, bytes, check, reached_of}
use Rattle.meaning.specs.ReadValue.{padding, at4}
use Rattle.meaning.specs.Writers.{is_alignment}
use Rattle.std.specs.Prelude.{Result, Ok, Err}
use Rattle.std.specs.List.{list_all}
use Rattle.meaning.specs.Reads.{check_padding}
use Rattle.meaning.specs.declared.Refusal.{Refusal}
use Rattle.meaning.specs.declared.Fault.TheVariants.{BadOffset, NotEnoughBytes, PaddingContainedData, BadAlignment}
use Rattle.meaning.proofs.Local.{bytes-yes, bytes-no, bind-got, bind-fault, leb-true, leb-false}
use Rattle.meaning.proofs.Meets.{here-bind}
use Rattle.util.specs.Entry.{taken_from}
use Rattle.meaning.proofs.ValueLocal.{padding-local}
use Rattle.meaning.specs.declared.Place.{Place}
use Rattle.util.proofs.Windows.{reached-within, entry-is}

abbrev tested : ℕ → List ℕ → R (Unit {0})
tested p zs = check (zeros zs) PaddingContainedData (at4 p zs)

-- `padded` by the ways through the code, where g bytes lead to the next multiple
module _ (a : ℕ) (b : List ℕ) (off g : ℕ) (w : off ≤ length b) (e : g ≡ gap a off) where
  abbrev goal : Result Place Refusal
  goal = reached_of (padding a b off)

  enough : g ≤ length b - off → padding a b off ≡ tested off (take g (drop off b)) b (off + g)
  unfolding padding
  enough h =
      let k : off + g ≤ length b = omega (arith, w) in
      here-bind (λ p. bytes (gap a p) p >>= tested p) b off
      ∙ ap (λ (n : ℕ). (bytes n off >>= tested off) b off) (sym e)
      ∙ bind-got (bytes g off) (tested off) b off _ _ (bytes-yes g off b off k)

  pub none : g ≡ 0 → Ok (record { 0 = off }) ≡ goal
  unfolding zeros check
  none h =
      let z : off + 0 ≡ off = omega arith in
      let q : tested off (take g (drop off b)) b (off + g) ≡ got tt off = rw (h, z) in
      sym (ap reached_of (enough (omega arith) ∙ q))

  pub too_short : length b - off < g → (x : Refusal) → x ≡ refusal NotEnoughBytes off → Err x ≡ goal
  unfolding padding
  too_short h x q =
      let k : length b < off + g = omega (arith, w) in
      ap Err q
      ∙ sym
      (ap reached_of
      (here-bind (λ p. bytes (gap a p) p >>= tested p) b off
      ∙ ap (λ (n : ℕ). (bytes n off >>= tested off) b off) (sym e)
      ∙ bind-fault (bytes g off) (tested off) b off _ (bytes-no g off b off k)))

  pub all-zero : g ≤ length b - off → true ≡ zeros (take g (drop off b)) → Ok (record { 0 = off + g }) ≡ goal
  unfolding check
  all-zero h z =
      let q : tested off (take g (drop off b)) b (off + g) ≡ got tt (off + g) = rw (← z) in
      sym (ap reached_of (enough h ∙ q))

  pub holds-data : g ≤ length b - off → false ≡ zeros (take g (drop off b)) → (x : Refusal) → x ≡ refusal PaddingContainedData off → Err x ≡ goal
  unfolding check
  holds-data h z x q =
      let t : tested off (take g (drop off b)) b (off + g) ≡ stop PaddingContainedData off = rw (← z) in
      ap Err q ∙ sym (ap reached_of (enough h ∙ t))

-- the only alignment left
pub is_one : (a : ℕ) → T (is_alignment a) → (a ≡ 8 → ⊥) → (a ≡ 4 → ⊥) → (a ≡ 2 → ⊥) → a ≡ 1
is_one a t h8 h4 h2 = go (eqb a 1) refl
  where
    go : (q : Bool) → eqb a 1 ≡ q → a ≡ 1
    go true e = eqb-true a 1 e
    go false e = absurd (rw (e, ne_eqb a 2 h2, ne_eqb a 4 h4, ne_eqb a 8 h8) at t)

-- all bytes are 0
pub zeros-all : (xs : List ℕ) → list_all (λ x. eqb x 0) xs ≡ zeros xs
unfolding zeros
zeros-all [] = refl
zeros-all (x ∷ xs) = rw (zeros-all xs) refl

-- 1 and 24 come before the padding's own faults
pub outside : (a : ℕ) (b : List ℕ) (off : ℕ) → length b < off → (x : Refusal) → x ≡ refusal BadOffset off → Err x ≡ check_padding a b off
unfolding check_padding
outside a b off h x e = rw (leb-false off (length b) h, check_padding, e)

pub no-alignment : (a : ℕ) (b : List ℕ) (off : ℕ) → off ≤ length b → is_alignment a ≡ false → (x : Refusal) → x ≡ refusal BadAlignment off → Err x ≡ check_padding a b off
unfolding check_padding
no-alignment a b off h k x e = rw (leb-true off (length b) h, k, check_padding, e)

pub aligned : (a : ℕ) (b : List ℕ) (off : ℕ) (q : Result Place Refusal) → off ≤ length b → is_alignment a ≡ true → q ≡ reached_of (padding a b off) → taken_from off q ≡ check_padding a b off
unfolding check_padding
aligned a b off q h k e = rw (leb-true off (length b) h, k, check_padding) (entry-is (padding a) b off q h e)

-- padding that was read leads to a place within what is seen
pub padded-within : (a : ℕ) (b : List ℕ) (off : ℕ) (q : Result Place Refusal) (p : Place) → off ≤ length b → q ≡ reached_of (padding a b off)
    → q ≡ Ok p → (off ≤ p.0) × (p.0 ≤ length b)
padded-within a b off q p w e h = reached-within (padding a) (padding-local a).bound b off p w (sym h ∙ e)
