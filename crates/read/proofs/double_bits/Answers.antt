-- The test is the one that the definition makes.
use mathlib.Core.Path.{refl, sym, ◌∙◌}
use Rattle.read.specs.Bits.{double_bits}
use Rattle.read.proofs.double_bits.Goals as goal

pub returns-then-is_nan : goal.returns-then-is_nan
unfolding double_bits
returns-then-is_nan c = rw (sym c.is_nan.ensures.value ∙ c.if-is_nan.true) refl

pub returns-else-is_nan : goal.returns-else-is_nan
unfolding double_bits
returns-else-is_nan c = rw (sym c.is_nan.ensures.value ∙ c.if-is_nan.false) refl
