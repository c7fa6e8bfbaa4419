-- The high hex digit of the table's entry.
use native.Mathlib.Omega.{arith}
use Rattle.types.proofs.Rule.{size_small}
use Rattle.types.proofs.align.Goals as goal

pub returns : goal.returns
returns c = omega (arith, c.entry.ensures, size_small c.args.code (omega arith))
