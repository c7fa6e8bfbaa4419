-- What is read off the table, or 0 outside it, is what the table's rule says of the code.
use Prim.Native.Nat.{◌<◌, ◌≤◌, ◌-◌}
use native.Mathlib.Omega.{arith}
use borrow.Author.Tests.{le-ltb, lt-ltb}
use Rattle.types.proofs.Rule.{entries, table_at, rule}
use Rattle.types.proofs.entry.Goals as goal

pub returns-in-40-to-121 : goal.returns-in-40-to-121
unfolding table_at entries
returns-in-40-to-121 c =
    let above : 40 ≤ c.args.code = omega arith in
    let below : c.args.code - 40 < 82 = omega arith in
    rw (le-ltb _ _ above, lt-ltb _ _ below) at (rule c.args.code (omega arith))

pub returns-in_default : goal.returns-in_default
unfolding table_at
returns-in_default c =
    let below : c.args.code < 40 = omega arith in
    rw (lt-ltb _ _ below) at (rule c.args.code (omega arith))

pub returns-in_default-2 : goal.returns-in_default-2
unfolding table_at
returns-in_default-2 c =
    let above : 40 ≤ c.args.code = omega arith in
    let past : 82 ≤ c.args.code - 40 = omega arith in
    rw (le-ltb _ _ above, le-ltb _ _ past) at (rule c.args.code (omega arith))
