-- A turn of a loop over what an array holds, as the code takes it: the reader's answer is known by where it gets to.
use Prim.Native.Nat.{ℕ, ◌-◌, ◌≤◌, ◌<◌}
use native.Mathlib.Omega.{arith}
use mathlib.Core.List.{List}
use mathlib.Core.Path.{◌≡◌, sym, ◌∙◌}
use lib.ListN.{length}
use Rattle.meaning.specs.declared.Place.{Place}
use Rattle.meaning.specs.declared.Refusal.{Refusal}
use Rattle.std.specs.Prelude.{Result, Ok, Err}
use Rattle.meaning.specs.Reader.{R, many, reached_of}
use Rattle.meaning.proofs.Local.{Local}
use Rattle.meaning.proofs.Grows.{Grows}
use Rattle.meaning.proofs.Loop.{at-inv, refused-inv, Onward, onward-start, onward-step, onward-refused, onward-end}

module _ {A : Type 0} (r : R A) (lr : Local r) (gr : Grows r) (b : List ℕ) where
  pub moved : (o : ℕ) (q : Result Place Refusal) (p : Place) → o ≤ length b → q ≡ reached_of (r b o) → q ≡ Ok p → (o < p.0) × (p.0 ≤ length b)
  moved o q p h e k =
      let i = at-inv (r b o) p (sym e ∙ k) in
      (gr b o i.0 p.0 h i.1, (lr.bound b o i.0 p.0 h i.1).1)

  pub turned : (n first o : ℕ) (q : Result Place Refusal) (p : Place) → Onward r b n first o → o < length b → q ≡ reached_of (r b o) → q ≡ Ok p → Onward r b n first p.0
  turned n first o q p w h e k =
      let i = at-inv (r b o) p (sym e ∙ k) in
      onward-step r b n first o i.0 p.0 w (omega arith) i.1 (moved o q p (omega arith) e k).0

  pub refused : (n first o : ℕ) (q : Result Place Refusal) (x : Refusal) → Onward r b n first o → o < length b → q ≡ reached_of (r b o) → q ≡ Err x → Err x ≡ reached_of (many n r b first)
  refused n first o q x w h e k = sym (onward-refused r b n first o x w (omega arith) (refused-inv (r b o) x (sym e ∙ k)))

  pub ended : (n first o z : ℕ) → Onward r b n first o → length b ≤ o → z ≡ o → Ok (record { 0 = z }) ≡ reached_of (many n r b first)
  ended n first o z w h k = rw k (sym (onward-end r b n first o w (omega arith)))

  pub began : (first : ℕ) → first ≤ length b → Onward r b (length b - first) first first
  began first h = onward-start r b (length b - first) first (omega arith)
