-- A loop that checks one thing after another, up to the end of what is seen: what code says at each turn of `many`.
use Prim.Native.Nat.{ℕ, zero, suc, ◌+◌, ◌≤◌, ◌<◌}
use native.Mathlib.Omega.{arith}
use mathlib.Core.List.{List, ◌∷◌}
use mathlib.Core.Path.{◌≡◌, refl, ap, sym, ◌∙◌}
use lib.ListN.{length}
use Rattle.meaning.specs.declared.Place.{Place}
use Rattle.meaning.specs.declared.Refusal.{Refusal}
use Rattle.std.specs.Prelude.{Result, Ok, Err}
use Rattle.meaning.specs.Reader.{Res, got, fault, R, ret, ◌>>=◌, many, reached_of}
use Rattle.meaning.proofs.Local.{bind-got, bind-fault, many-end, many-round}

abbrev place_of : Result Place Refusal → ℕ
place_of (Ok q) = q.0
place_of (Err y) = 0

-- what a reader's answer was, from where it got to
pub at-inv : {A : Type 0} (x : Res A) (p : Place) → reached_of x ≡ Ok p → (v : A) × (x ≡ got v p.0)
at-inv (got v e) p h = (v, ap (λ (k : ℕ). got v k) (ap place_of h))
at-inv (fault y) p h = absurd (let z : ◌≡◌ {A = ℕ} 0 1 = cc in omega arith)

pub refused-inv : {A : Type 0} (x : Res A) (y : Refusal) → reached_of x ≡ Err y → x ≡ fault y
refused-inv (got v e) y h = absurd (let z : ◌≡◌ {A = ℕ} 0 1 = cc in omega arith)
refused-inv {A} (fault z) y h = let w : z ≡ y = cc in ap (λ (u : Refusal). fault u) w

-- at o, the loop has come so far that what is left of it answers for the whole
pub record Onward {A : Type 0} (r : R A) (b : List ℕ) (n first o : ℕ) : Type 0 where
  pub left : ℕ
  pub enough : length b ≤ o + left
  pub same : reached_of (many n r b first) ≡ reached_of (many left r b o)

module _ {A : Type 0} (r : R A) (b : List ℕ) where
  pub onward-start : (n first : ℕ) → length b ≤ first + n → Onward r b n first first
  onward-start n first h = record { left = n; enough = h; same = refl }

  again : (m o : ℕ) (v : A) (p : ℕ) → o < length b → r b o ≡ got v p → reached_of (many (suc m) r b o) ≡ reached_of (many m r b p)
  unfolding ret
  again m o v p l q = ap reached_of (many-round m r b o l ∙ bind-got r (λ x. many m r >>= λ vs. ret (x ∷ vs)) b o v p q) ∙ tail (many m r b p) refl
    where
      tail : (y : Res (List A)) → many m r b p ≡ y → reached_of ((many m r >>= λ vs. ret (v ∷ vs)) b p) ≡ reached_of (many m r b p)
      tail (got vs e) z = ap reached_of (bind-got (many m r) (λ ws. ret (v ∷ ws)) b p vs e z) ∙ sym (ap reached_of z)
      tail (fault x) z = ap reached_of (bind-fault (many m r) (λ ws. ret (v ∷ ws)) b p x z) ∙ sym (ap reached_of z)

  pub onward-step : (n first o : ℕ) (v : A) (p : ℕ) → Onward r b n first o → o < length b → r b o ≡ got v p → o < p → Onward r b n first p
  onward-step n first o v p h l q g = go h.left h.enough h.same
    where
      go : (m : ℕ) → length b ≤ o + m → reached_of (many n r b first) ≡ reached_of (many m r b o) → Onward r b n first p
      go zero e s = absurd (omega arith)
      go (suc m) e s = record { left = m; enough = omega arith; same = s ∙ again m o v p l q }

  pub onward-refused : (n first o : ℕ) (x : Refusal) → Onward r b n first o → o < length b → r b o ≡ fault x → reached_of (many n r b first) ≡ Err x
  onward-refused n first o x h l q = go h.left h.enough h.same
    where
      go : (m : ℕ) → length b ≤ o + m → reached_of (many n r b first) ≡ reached_of (many m r b o) → reached_of (many n r b first) ≡ Err x
      go zero e s = absurd (omega arith)
      go (suc m) e s = s ∙ ap reached_of (many-round m r b o l ∙ bind-fault r (λ v. many m r >>= λ vs. ret (v ∷ vs)) b o x q)

  pub onward-end : (n first o : ℕ) → Onward r b n first o → length b ≤ o → reached_of (many n r b first) ≡ Ok (record { 0 = o })
  onward-end n first o h l = h.same ∙ ap reached_of (many-end h.left r b o l)
