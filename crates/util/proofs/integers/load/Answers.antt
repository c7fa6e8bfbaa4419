-- The only alignment left is one byte, which is a number of one byte.
use mathlib.Core.Path.{◌≡◌}
use native.Mathlib.Omega.{arith}
use borrow.Author.Rules.{rules}
use lib.ListN.{get_or}
use Rattle.util.proofs.Pads.{is_one}
use Rattle.util.proofs.integers.Loads.{single}
use Rattle.util.proofs.integers.load.Goals as goal

pub returns-in_default : goal.returns-in_default
returns-in_default c =
    let one = is_one c.args.width c.requires.1 (λ e. omega arith) (λ e. omega arith) (λ e. omega arith) in
    let same : c.from.result ≡ get_or c.args.buf.now c.args.at 0 = search rules in
    rw one (single _ _ _ _ (omega arith) same (omega (arith, c.type_inv.buf c.args.at)))
