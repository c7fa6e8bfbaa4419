-- The tests that led to each return say which case of `padding` holds.
use mathlib.Core.Path.{sym, ◌∙◌}
use Rattle.util.proofs.Pads.{none, too_short, all-zero, holds-data}
use Rattle.util.proofs.padded.Goals as goal

pub returns-then-count-eq0 : goal.returns-then-count-eq0
returns-then-count-eq0 c = none _ _ _ _ c.requires.inside c.gap-count.ensures c.if-count-eq0.true

pub returns-then-buf-off : goal.returns-then-buf-off
returns-then-buf-off c = too_short _ _ _ _ c.requires.inside c.gap-count.ensures c.if-buf-off.true _ c.refuse.ensures

pub returns-then-zeros : goal.returns-then-zeros
returns-then-zeros c =
    let asked = c.requires in
    let gap = c.gap-count in
    all-zero _ _ _ _ asked.inside gap.ensures c.if-buf-off.false (sym c.if-zeros.true ∙ c.zeros.ensures)

pub returns-else-zeros : goal.returns-else-zeros
returns-else-zeros c =
    let asked = c.requires in
    let gap = c.gap-count in
    let if2 = c.if-buf-off in
    holds-data _ _ _ _ asked.inside gap.ensures if2.false (sym c.if-zeros.false ∙ c.zeros.ensures) _
    c.refuse-else-zeros.ensures
