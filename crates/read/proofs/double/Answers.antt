-- The code's test is the one comparison that tells a NaN's bits.
use mathlib.Core.Path.{◌∙◌}
use lib.Ieee.{binary64}
use lib.Ieee.Bits.{nan_bits_above}
use borrow.Author.Tests.{lt-ltb, le-ltb}
use Rattle.read.proofs.double.Goals as goal

pub float_from_bits-result : goal.float_from_bits-result
float_from_bits-result c = rw (nan_bits_above binary64 c.args.bits ∙ le-ltb _ _ c.if-size-gt9218868437227405312.false) tt

pub returns-then-size-gt9218868437227405312 : goal.returns-then-size-gt9218868437227405312
returns-then-size-gt9218868437227405312 c = rw (nan_bits_above binary64 c.args.bits ∙ lt-ltb _ _ c.if-size-gt9218868437227405312.true)

pub returns-else-size-gt9218868437227405312 : goal.returns-else-size-gt9218868437227405312
returns-else-size-gt9218868437227405312 c = rw (nan_bits_above binary64 c.args.bits ∙ le-ltb _ _ c.if-size-gt9218868437227405312.false)
