-- Eight bytes, of which those that are not read are zero, make the number that was read.
use native.Mathlib.Omega.{arith}
use Rattle.util.proofs.integers.Loads.{is-little}
use Rattle.util.proofs.integers.little.Goals as goal

pub returns : goal.returns
returns g c =
    let asked = c.requires in
    is-little g.row.N _ _ _ _ asked.1 asked.0 (λ i. omega (arith, c.type_inv.buf i)) c.copy_from_slice.ensures.after c.from_le_bytes.ensures
