-- What the inner functions of the value reader ask for: the code of a fixed type, and bits that the type's bytes hold.
use Rattle.std.specs.Prelude.{ℕ, ◌<◌, ◌^◌, ◌≡◌}
use Rattle.meaning.specs.Types.{Fix, size}
use Rattle.meaning.specs.Signature.{code_fix}

-- the code is that of a fixed type
pub record Coded (code : ℕ) : Type 0 where
  pub type : Fix
  pub coded : code ≡ code_fix type

-- and its bytes hold these bits
pub record Holds (code bits : ℕ) : Type 0 where
  pub type : Fix
  pub coded : code ≡ code_fix type
  pub small : bits < 256 ^ size type
