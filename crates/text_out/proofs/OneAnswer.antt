-- No second place and no second buffer meet a contract of this crate's functions: each is an equation with a definition of what was passed.
use Prim.Native.Nat.{ℕ}
use mathlib.Core.List.{List}
use mathlib.Core.Path.{◌≡◌}
use Rattle.meaning.proofs.OneAnswer.{both}
use Rattle.text_out.specs.Puts.{Puts}
use Rattle.text_out.proofs.put.Reads as put
use Rattle.text_out.proofs.put_number.Reads as put-number
use Rattle.text_out.proofs.put_bytes.Reads as put-bytes

-- of a function that puts texts: one place behind them, and one buffer
abbrev pub OnePut : {K : Type 0} {A R S : K → Type 0} → ((κs : K) → A κs → R κs → S κs → Type 0) → ((κs : K) → S κs → List ℕ) → Type 0
OnePut {K} {A} {R} {S} L left = (κs : K) (a : A κs) (x y : R κs) (s t : S κs) → L κs a x s → L κs a y t → (x ≡ y) × (left κs s ≡ left κs t)

pub once : {out b e : List ℕ} {at p q : ℕ} {xs : List (List ℕ)} → Puts out at xs p b → Puts out at xs q e → (p ≡ q) × (b ≡ e)
once h k = (both h.place k.place, both h.after k.after)

pub one-put : OnePut put.Learnt (λ κs s. s.0.now)
one-put κs a x y s t h k = once h k

pub one-put-number : OnePut put-number.Learnt (λ κs s. s.0.now)
one-put-number κs a x y s t h k = once h k

pub one-put-bytes : OnePut put-bytes.Learnt (λ κs s. s.0.now)
one-put-bytes κs a x y s t h k = once h k
