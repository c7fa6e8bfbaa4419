-- The bytes that are copied are the number's.
use Prim.Native.Nat.{◌≤◌}
use native.Mathlib.Omega.{arith}
use Rattle.std.proofs.lemmas.Grind.{common_steps}
use Rattle.write.proofs.store.Stores.{little_bytes, big_bytes}
use Rattle.write.proofs.store.store.Goals as goal

pub returns-in-Little : goal.returns-in-Little
returns-in-Little c =
    let a = c.args in
    let small : a.width ≤ 8 = grind (arith, common_steps) in
    rw (c.in-Little.is, ← little_bytes a.width a.x small, ← c.to_le_bytes.ensures) c.put.ensures

pub returns-in-Big : goal.returns-in-Big
returns-in-Big c =
    let a = c.args in
    let small : a.width ≤ 8 = grind (arith, common_steps) in
    rw (c.in-Big.is, ← big_bytes a.width a.x small, ← c.to_be_bytes.ensures) c.put-in-Big.ensures
