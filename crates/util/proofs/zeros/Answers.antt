-- The closure tests each byte of the part.
use native.Mathlib.Omega.{arith}
use lib.Dec.{eqb}
use lib.ListN.{take, drop}
use mathlib.Core.List.{List}
use mathlib.Core.Path.{◌≡◌, ap, ◌∙◌}
use Prim.Native.Nat.{ℕ, ◌+◌, ◌-◌}
use Rattle.std.proofs.Common.{rules, tests}
use Rattle.std.proofs.lemmas.Iterator.{YieldsList-from_slice}
use Rattle.std.proofs.lemmas.Iterator.Search.{all_from_yields_List}
use Rattle.meaning.specs.Number.{zeros}
use Rattle.util.proofs.Pads.{zeros-all}
use Rattle.util.proofs.zeros.Goals as goal

pub returns : goal.returns
returns c =
    let a = c.args in
    let e : a.from + a.count - a.from ≡ a.count = omega arith in
    let part : List ℕ = take (a.from + a.count - a.from) (drop a.from a.buf.now) in
    all_from_yields_List (λ x. eqb x 0) _ _ _ c.all.ensures.ran (YieldsList-from_slice part cc) (λ x b q k. search (rules, tests))
    ∙ zeros-all part ∙ ap (λ (n : ℕ). zeros (take n (drop a.from a.buf.now))) e
