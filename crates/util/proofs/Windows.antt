-- Readers that see a first part of a buffer, and what an entry point makes of where they get to.
use Prim.Native.Nat.{ℕ, ◌+◌, ◌≤◌, ◌<◌}
use native.Mathlib.Omega.{arith}
use mathlib.Core.List.{List}
use mathlib.Core.Path.{◌≡◌, refl, ap, sym, subst, ◌∙◌}
use lib.ListN.{length, take, drop, take-append-drop}
use lib.Seq.{length-take-le, take_all}
use Rattle.meaning.specs.Reader.{Res, got, fault, R, reached_of}
use Rattle.meaning.specs.ReadValue.{check_at, checked_of, no}
use Rattle.meaning.specs.declared.Fault.TheVariants.{BadOffset}
use Rattle.meaning.specs.declared.Place.{Place}
use Rattle.std.specs.Prelude.{Result, Ok, Err}
use Rattle.meaning.specs.declared.Refusal.{Refusal}
use Rattle.meaning.proofs.Local.{Bounded, leb-true, leb-false, take_part}
use Rattle.util.specs.Entry.{Past, taken_from}

-- the bytes of a part that lies within what is seen
pub seen : (b : List ℕ) (end off n : ℕ) → off + n ≤ end → end ≤ length b → take n (drop off (take end b)) ≡ take n (drop off b)
seen b end off n h l =
    let e : length (take end b) ≡ end = length-take-le end b l in
    let k : off + n ≤ length (take end b) = rw e h in
    sym (subst (λ (s : List ℕ). take n (drop off s) ≡ take n (drop off (take end b))) (take-append-drop end b) (take_part n off (take end b) (drop end b) k))

-- A front of a buffer that is no shorter than it is all of it. An entry point's proof asks no more of the code than that its reader is handed such a
-- front; so where a wrong program cuts the buffer short, the check says at which lengths.
pub front-is : (s b : List ℕ) → length b ≤ length s → s ≡ take (length s) b → s ≡ b
front-is s b long front = front ∙ take_all (length s) b long

-- a reader that was handed such a front has read the buffer
pub front-read : {A : Type 0} (r : R A) (s b : List ℕ) (off : ℕ) (q : Result Place Refusal) → q ≡ reached_of (r s off)
    → length b ≤ length s → s ≡ take (length s) b → q ≡ reached_of (r b off)
front-read r s b off q e long front = e ∙ ap (λ (x : List ℕ). reached_of (r x off)) (front-is s b long front)

-- a reader that gets somewhere gets to a place between its start and the end of what it sees
pub reached-within : {A : Type 0} (r : R A) → Bounded r → (b : List ℕ) (off : ℕ) (p : Place) → off ≤ length b
    → Ok p ≡ reached_of (r b off) → (off ≤ p.0) × (p.0 ≤ length b)
reached-within {A} r lr b off p w e = go (r b off) refl
  where
    go : (x : Res A) → r b off ≡ x → (off ≤ p.0) × (p.0 ≤ length b)
    go (got v m) q =
        let i = lr b off v m w q in
        let z : p.0 ≡ m = let f : Ok p ≡ Ok (record { 0 = m }) = e ∙ ap reached_of q in cc in
        (omega arith, omega arith)
    go (fault x) q = absurd (let f : Ok p ≡ Err x = e ∙ ap reached_of q in let z : ◌≡◌ {A = ℕ} 0 1 = cc in omega arith)

-- what an entry point makes of it
pub entry_past : {A : Type 0} (r : R A) → Bounded r → (b : List ℕ) (off : ℕ) (q : Result Place Refusal) → off ≤ length b → q ≡ reached_of (r b off)
    → Past off q
entry_past r lr b off (Ok p) h e = (reached-within r lr b off p h e).0
entry_past r lr b off (Err x) h e = tt

taken-checked : {A : Type 0} (off : ℕ) (x : Res A) → taken_from off (reached_of x) ≡ checked_of off x
taken-checked off (got v e) = refl
taken-checked off (fault x) = refl

pub entry-is : {A : Type 0} (r : R A) (b : List ℕ) (off : ℕ) (q : Result Place Refusal) → off ≤ length b → q ≡ reached_of (r b off)
    → taken_from off q ≡ check_at r b off
unfolding check_at
entry-is r b off q h e = rw (leb-true off (length b) h, check_at, e) (taken-checked off (r b off))

pub entry-outside : {A : Type 0} (r : R A) (b : List ℕ) (off : ℕ) → length b < off → no BadOffset off ≡ check_at r b off
unfolding check_at
entry-outside r b off h = rw (leb-false off (length b) h, check_at)
