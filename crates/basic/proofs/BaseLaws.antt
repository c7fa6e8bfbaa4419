-- Basic values by the ways through the code.
use Prim.Native.Nat.{ℕ, ◌+◌, ◌≤◌, ◌<◌}
use native.Mathlib.Omega.{arith}
use mathlib.Core.Bool.{false}
use mathlib.Core.List.{List}
use mathlib.Core.Path.{◌≡◌, refl, ap, sym, ◌∙◌}
use lib.ListN.{length, take, drop}
use lib.Dec.{T}
use Rattle.meaning.specs.declared.Order.{Order}
use Rattle.meaning.specs.declared.Refusal.{Refusal}
use Rattle.std.specs.Prelude.{Result, Ok, Err}
use Rattle.meaning.specs.declared.Place.{Place}
use Rattle.meaning.specs.declared.Fault.TheVariants.{NotEnoughBytes, InvalidBoolean}
use Rattle.meaning.specs.Faults.{refusal}
use Rattle.meaning.specs.Number.{load}
use Rattle.meaning.specs.Types.{Fix, byte, bool, i16, u16, i32, u32, i64, u64, dbl, fd, Base, fix, str, path, sig, size, align_base}
use Rattle.meaning.specs.Signature.{code, code_fix}
use Rattle.meaning.specs.Reader.{R, ret, ◌>>=◌, ◌>>◌, check, bytes, reached_of}
use Rattle.meaning.specs.ReadValue.{valid, padding, read_fix, bare_r, base_r}
use Rattle.meaning.proofs.Local.{bind-got, bind-fault, bytes-yes, bytes-no}
use Rattle.meaning.proofs.Meets.{here-bind, check_bind}
use Rattle.meaning.proofs.PlaceLaws.{same_code}
use Rattle.meaning.proofs.Loop.{at-inv, refused-inv}
use Rattle.types.specs.Codes.{align_code}
use Rattle.types.proofs.CodeLaws.{align-base}
use Rattle.basic.specs.Basic.{AnyBits}

module _ (o : Order) (c : Fix) (b : List ℕ) (off : ℕ) where
  abbrev tested : ℕ → List ℕ → R ℕ
  tested p xs = check (valid c (load o xs)) InvalidBoolean p >> ret (load o xs)

  abbrev bits : List ℕ
  bits = take (size c) (drop off b)

  pub number_short : (n : ℕ) (x : Refusal) → n ≡ size c → length b < off + n → x ≡ refusal NotEnoughBytes off → Err x ≡ reached_of (read_fix o c b off)
  unfolding read_fix
  number_short n x k h e =
      rw e (sym (ap reached_of (here-bind (λ p. bytes (size c) p >>= tested p) b off ∙ bind-fault (bytes (size c) off) (tested off) b off (refusal NotEnoughBytes off) (bytes-no (size c) off b off (omega arith)))))

  module _ (n : ℕ) (wide : n ≡ size c) (fits : off + n ≤ length b) where
    there : read_fix o c b off ≡ tested off bits b (off + size c)
    unfolding read_fix
    there = here-bind (λ p. bytes (size c) p >>= tested p) b off ∙ bind-got (bytes (size c) off) (tested off) b off bits (off + size c) (bytes-yes (size c) off b off (omega arith))

    pub number_read : T (valid c (load o bits)) → Ok (record { 0 = off + n }) ≡ reached_of (read_fix o c b off)
    unfolding ret
    number_read v = rw wide (sym (ap reached_of (there ∙ check_bind (valid c (load o bits)) InvalidBoolean off (λ z. ret (load o bits)) b (off + size c) v)))

    pub number-wrong : (x : Refusal) → valid c (load o bits) ≡ false → x ≡ refusal InvalidBoolean off → Err x ≡ reached_of (read_fix o c b off)
    unfolding check
    number-wrong x v e = rw e (sym (ap reached_of (there ∙ bind-fault (check (valid c (load o bits)) InvalidBoolean off) (λ z. ret (load o bits)) b (off + size c) (refusal InvalidBoolean off) (rw (v, check)))))

-- which basic type a code is: those with a reader of their own, and the numbers of which any bits are a value
pub record IsNumber (c : Base) : Type 0 where
  pub of : Fix
  pub is : c ≡ fix of
  pub any : AnyBits of

pub is_number : (c : Base) → (code c ≡ 115 → ⊥) → (code c ≡ 111 → ⊥) → (code c ≡ 103 → ⊥) → (code c ≡ 98 → ⊥) → IsNumber c
is_number (fix byte) s p g b = record { of = byte; is = refl; any = λ x. tt }
is_number (fix bool) s p g b = absurd (b refl)
is_number (fix i16) s p g b = record { of = i16; is = refl; any = λ x. tt }
is_number (fix u16) s p g b = record { of = u16; is = refl; any = λ x. tt }
is_number (fix i32) s p g b = record { of = i32; is = refl; any = λ x. tt }
is_number (fix u32) s p g b = record { of = u32; is = refl; any = λ x. tt }
is_number (fix i64) s p g b = record { of = i64; is = refl; any = λ x. tt }
is_number (fix u64) s p g b = record { of = u64; is = refl; any = λ x. tt }
is_number (fix dbl) s p g b = record { of = dbl; is = refl; any = λ x. tt }
is_number (fix fd) s p g b = record { of = fd; is = refl; any = λ x. tt }
is_number str s p g b = absurd (s refl)
is_number path s p g b = absurd (p refl)
is_number sig s p g b = absurd (g refl)

-- a basic value is its padding and its bytes
module _ (o : Order) (c : Base) (b : List ℕ) (off : ℕ) where
  pub base-stop : (x : Refusal) → reached_of (padding (align_base c) b off) ≡ Err x → Err x ≡ reached_of (base_r o c b off)
  unfolding base_r
  base-stop x h = sym (ap reached_of (bind-fault (padding (align_base c)) (λ z. bare_r o c) b off x (refused-inv (padding (align_base c) b off) x h)))

  pub base-bare : (p : Place) (r : Result Place Refusal) → reached_of (padding (align_base c) b off) ≡ Ok p → r ≡ reached_of (bare_r o c b p.0) → r ≡ reached_of (base_r o c b off)
  unfolding base_r
  base-bare p r h k =
      let i = at-inv (padding (align_base c) b off) p h in
      k ∙ sym (ap reached_of (bind-got (padding (align_base c)) (λ z. bare_r o c) b off i.0 p.0 i.1))

-- the padding that the table's entry for the code asks for
pub base-padding : (c : Base) (k a : ℕ) (b : List ℕ) (off : ℕ) {q : Result Place Refusal} → a ≡ align_code k → k ≡ code c → q ≡ reached_of (padding a b off) → reached_of (padding (align_base c) b off) ≡ q
base-padding c k a b off e h g = sym (g ∙ ap (λ (n : ℕ). reached_of (padding n b off)) (e ∙ ap align_code h ∙ align-base c))

-- an answer for the type that a code turned out to be
pub as-base : (o : Order) (b : List ℕ) (off : ℕ) (d : Base) {c : Base} (r : Result Place Refusal) → c ≡ d → r ≡ reached_of (bare_r o d b off) → r ≡ reached_of (bare_r o c b off)
as-base o b off d r e h = rw e h

-- a number is its padding and its bytes
module _ (o : Order) (c : Fix) (n : ℕ) (b : List ℕ) (off : ℕ) (wide : n ≡ size c) where
  wide-padding : {q : Result Place Refusal} → q ≡ reached_of (padding n b off) → reached_of (padding (align_base (fix c)) b off) ≡ q
  wide-padding g = sym (g ∙ ap (λ (x : ℕ). reached_of (padding x b off)) wide)

  pub number-stop : (q : Result Place Refusal) (x : Refusal) → q ≡ reached_of (padding n b off) → q ≡ Err x → Err x ≡ reached_of (base_r o (fix c) b off)
  number-stop q x g k = base-stop o (fix c) b off x (wide-padding g ∙ k)

  pub number_at : (q : Result Place Refusal) (p : Place) (r : Result Place Refusal) → q ≡ reached_of (padding n b off) → q ≡ Ok p → r ≡ reached_of (read_fix o c b p.0) → r ≡ reached_of (base_r o (fix c) b off)
  unfolding bare_r
  number_at q p r g k l = base-bare o (fix c) b off p r (wide-padding g ∙ k) l

-- an answer for every number of n bytes is one for the number that a code turned out to be
module _ (o : Order) (b : List ℕ) (off : ℕ) (c : Base) (n k : ℕ) (r : Result Place Refusal) (coded : k ≡ code c)
    (all : (o : Order) (d : Fix) → AnyBits d → n ≡ size d → r ≡ reached_of (base_r o (fix d) b off)) where
  pub as_number : (f : Fix) → AnyBits f → n ≡ size f → k ≡ code_fix f → r ≡ reached_of (base_r o c b off)
  as_number f any e g = rw (same_code c (fix f) (sym coded ∙ g)) (all o f any e)
