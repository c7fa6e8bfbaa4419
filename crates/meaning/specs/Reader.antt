-- Readers over a byte list, and the combinators that every reader of this crate is made of.
use Rattle.std.specs.Prelude.{ℕ, zero, suc, ◌+◌, Bool, true, false, List, [], ◌∷◌, length, take, drop, leb, Result, Ok, Err}
use Rattle.meaning.specs.declared.Refusal.{Refusal}
use Rattle.meaning.specs.declared.Fault.{Fault}
use Rattle.meaning.specs.declared.Place.{Place}
use Rattle.meaning.specs.Faults.{refusal}
use Rattle.meaning.specs.declared.Fault.TheVariants.{NotEnoughBytes, NotEnoughBytesForCollection}

-- What a reader answers: a value and the place after it, or a refusal
pub data Res (A : Type 0) : Type 0 where
  got : A → ℕ → Res A
  fault : Refusal → Res A

abbrev pub stop : {A : Type 0} → Fault → ℕ → Res A
stop k p = fault (refusal k p)

-- the place that a reader gets to, whatever it read: what code that only checks hands on
abbrev pub reached_of : {A : Type 0} → Res A → Result Place Refusal
reached_of (got v e) = Ok (record { 0 = e })
reached_of (fault x) = Err x

-- A reader sees a list of bytes, and starts at an offset
abbrev pub R : Type 0 → Type 0
R A = List ℕ → ℕ → Res A

infixl 20 ◌>>=◌ ◌>>◌
unfoldable pub ret : {A : Type 0} → A → R A
ret v b off = got v off

unfoldable pub here : R ℕ
here b off = got off off

unfoldable pub fail : {A : Type 0} → Fault → ℕ → R A
fail k p b off = stop k p

abbrev pub after : {A B : Type 0} → Res A → (A → R B) → List ℕ → Res B
after (got v e) f b = f v b e
after (fault x) f b = fault x

unfoldable pub ◌>>=◌ : {A B : Type 0} → R A → (A → R B) → R B
◌>>=◌ r f b off = after (r b off) f b

abbrev pub ◌>>◌ : {A B : Type 0} → R A → R B → R B
◌>>◌ r f = r >>= λ v. f

-- a test that reads nothing: number and position of its refusal
unfoldable pub check : Bool → Fault → ℕ → R (Unit {0})
check true k p b off = got tt off
check false k p b off = stop k p

-- the next n bytes; too few: 2 at the position given
unfoldable pub bytes : ℕ → ℕ → R (List ℕ)
bytes n p b off = elim (leb (off + n) (length b)) [ true ↦ got (take n (drop off b)) (off + n) | false ↦ stop NotEnoughBytes p ]

-- r, once n bytes are seen to lie ahead; else 3 here
unfoldable pub ahead : {A : Type 0} → ℕ → R A → R A
ahead n r b off = elim (leb (off + n) (length b)) [ true ↦ r b off | false ↦ stop NotEnoughBytesForCollection off ]

-- r on the next n bytes, seeing nothing beyond; too few: the refusal and the position given
unfoldable pub window : {A : Type 0} → Fault → (ℕ → ℕ) → ℕ → R A → R A
window k at n r b off = elim (leb (off + n) (length b)) [ true ↦ r (take (off + n) b) off | false ↦ stop k (at off) ]

-- the contents of an array: 3 here
abbrev pub within : {A : Type 0} → ℕ → R A → R A
within n r = window NotEnoughBytesForCollection (λ p. p) n r

-- the parts of a message: 2 at 0
abbrev pub inside : {A : Type 0} → ℕ → R A → R A
inside n r = window NotEnoughBytes (λ p. 0) n r

-- r again and again up to the end of what is seen; the number bounds the rounds (each takes a byte at least)
unfoldable pub many : {A : Type 0} → ℕ → R A → R (List A)
many zero r b off = elim (leb (length b) off) [ true ↦ got [] off | false ↦ stop NotEnoughBytes off ]
many (suc n) r b off = elim (leb (length b) off) [ true ↦ got [] off | false ↦ (r >>= λ v. many n r >>= λ vs. ret (v ∷ vs)) b off ]
