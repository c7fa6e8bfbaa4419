-- "Show that no second answer fits it": a contract, as the generated `Learnt` of a function states it, leaves one answer to what was passed.
use Prim.Native.Nat.{ℕ}
use mathlib.Core.List.{List}
use mathlib.Core.Path.{◌≡◌, sym, ◌∙◌}
use Rattle.meaning.proofs.number.Reads as number
use Rattle.meaning.proofs.refuse.Reads as refuse
use Rattle.meaning.proofs.moved.Reads as moved
use Rattle.meaning.proofs.kind_code.Reads as kind-code

-- of lifetimes, arguments, the answer and the arguments at exit
abbrev pub OneAnswer : {K : Type 0} {A R S : K → Type 0} → ((κs : K) → A κs → R κs → S κs → Type 0) → Type 0
OneAnswer {K} {A} {R} {S} L = (κs : K) (a : A κs) (x y : R κs) (s t : S κs) → L κs a x s → L κs a y t → x ≡ y

-- the same of the bytes of a buffer that was lent
abbrev pub OneBuffer : {K : Type 0} {A R S : K → Type 0} → ((κs : K) → A κs → R κs → S κs → Type 0) → ((κs : K) → S κs → List ℕ) → Type 0
OneBuffer {K} {A} {R} {S} L left = (κs : K) (a : A κs) (x y : R κs) (s t : S κs) → L κs a x s → L κs a y t → left κs s ≡ left κs t

-- where the contract is an equation with a definition of what was passed
pub both : {A : Type 0} {x y z : A} → x ≡ z → y ≡ z → x ≡ y
both h k = h ∙ sym k

pub one_number : OneAnswer number.Learnt × OneAnswer kind-code.Learnt
one_number = (λ κs a x y s t h k. both h k, λ κs a x y s t h k. both h k)

pub one-refusal : OneAnswer refuse.Learnt × OneAnswer moved.Learnt
one-refusal = (λ κs a x y s t h k. both h k, λ κs a x y s t h k. both h k)
