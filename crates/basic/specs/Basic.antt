-- What the functions of this crate ask of a type's code.
use Rattle.std.specs.Prelude.{ℕ, ◌≡◌, T}
use Rattle.meaning.specs.Types.{Fix, Base}
use Rattle.meaning.specs.Signature.{code}
use Rattle.meaning.specs.ReadValue.{valid}

-- a code of a basic type
pub record BaseCode (k : ℕ) : Type 0 where
  pub of : Base
  pub is : k ≡ code of

-- a fixed type of which any bits are a value: all but a Boolean
abbrev pub AnyBits : Fix → Type 0
AnyBits c = (x : ℕ) → T (valid c x)
