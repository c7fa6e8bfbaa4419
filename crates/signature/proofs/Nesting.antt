-- How deep types lie: only what stands innermost decides, since depths only grow on the way in.
use Prim.Native.Nat.{ℕ, suc}
use mathlib.Core.Path.{◌≡◌, refl, ap, sym, ◌∙◌}
use mathlib.Core.Bool.{Bool, true, false, ◌&&◌, and-true, and_assoc}
use mathlib.Core.List.{List, [], ◌∷◌, ◌++◌}
use native.Mathlib.Omega.{arith}
use lib.Dec.{T, ltb, ltb→lt, lt→ltb}
use Rattle.meaning.proofs.Booleans.{and_left, and_right}
use Rattle.meaning.specs.Types.{Ty, base, arr, dict, struct, variant, Tys, one, more}
use Rattle.meaning.specs.Signature.{shallow, nest, nests, all_nest, snoc}

and_both : (a b : Bool) → T a → T b → T (a && b)
and_both true b h k = k
and_both false b h k = h

absorb : (p q : Bool) → (T q → T p) → (p && q) ≡ q
absorb true q h = refl
absorb false true h = absurd (h tt)
absorb false false h = refl

less : (n : ℕ) → T (ltb (suc n) 32) → T (ltb n 32)
less n h = lt→ltb n 32 (omega (arith, ltb→lt (suc n) 32 h))

mutual
  unfolding nest

  nest-shallow : (t : Ty) (s a : ℕ) → T (nest t s a) → T (shallow s a)
  nest-shallow (base c) s a h = h
  nest-shallow (arr e) s a h = and_left (shallow s a) (nest e s (suc a)) h
  nest-shallow (dict f k e) s a h = and_left (shallow s a) (nest e s (suc a)) h
  nest-shallow (struct fs) s a h = and_left (shallow s a) (nests fs (suc s) a) h
  nest-shallow variant s a h = h

  nests-shallow : (fs : Tys) (s a : ℕ) → T (nests fs s a) → T (shallow s a)
  nests-shallow (one e) s a h = nest-shallow e s a h
  nests-shallow (more e fs) s a h = nest-shallow e s a (and_left (nest e s a) (nests fs s a) h)

-- an array, or a dict, lies as deep as what it holds
pub nest-array : (e : Ty) (s a : ℕ) → nest (arr e) s a ≡ nest e s (suc a)
unfolding nest
nest-array e s a = absorb (shallow s a) (nest e s (suc a)) λ h.
    let i : T (shallow s (suc a)) = nest-shallow e s (suc a) h in
    and_both (ltb s 32) (ltb a 32) (and_left (ltb s 32) (ltb (suc a) 32) i) (less a (and_right (ltb s 32) (ltb (suc a) 32) i))

pub nest-struct : (fs : Tys) (s a : ℕ) → nest (struct fs) s a ≡ nests fs (suc s) a
unfolding nest
nest-struct fs s a = absorb (shallow s a) (nests fs (suc s) a) λ h.
    let i : T (shallow (suc s) a) = nests-shallow fs (suc s) a h in
    and_both (ltb s 32) (ltb a 32) (less s (and_left (ltb (suc s) 32) (ltb a 32) i)) (and_right (ltb (suc s) 32) (ltb a 32) i)

-- one type more
pub nest-all : (ts : List Ty) (t : Ty) → all_nest (ts ++ t ∷ []) ≡ (all_nest ts && nest t 0 0)
unfolding all_nest
nest-all [] t = and-true (nest t 0 0)
nest-all (e ∷ es) t = ap (λ (b : Bool). nest e 0 0 && b) (nest-all es t) ∙ sym (and_assoc (nest e 0 0) (all_nest es) (nest t 0 0))

pub nest-fields : (fs : Tys) (t : Ty) (s a : ℕ) → nests (snoc fs t) s a ≡ (nests fs s a && nest t s a)
unfolding nest snoc
nest-fields (one e) t s a = refl
nest-fields (more e fs) t s a =
    ap (λ (b : Bool). nest e s a && b) (nest-fields fs t s a) ∙ sym (and_assoc (nest e s a) (nests fs s a) (nest t s a))
