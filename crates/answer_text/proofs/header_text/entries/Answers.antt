-- Each turn puts one more behind those so far.
use Rattle.std.proofs.Common.{refl, arith}
use Rattle.answer_text.specs.Headers.{entries_of, entry_texts, each_texts}
use Rattle.answer_text.proofs.header_text.HeaderLaws.{nothing, turn}
use Rattle.answer_text.proofs.header_text.entries.Goals as goal

pub loop-e-init : goal.loop-e-init
unfolding each_texts
loop-e-init c = (refl, nothing)

pub loop-e-preserved : goal.loop-e-preserved
loop-e-preserved c =
    let l = c.loop-e in
    (omega arith, turn entry_texts (entries_of c.args.f) l.e-index _ (omega arith) l.invariant.1 c.entry-behind.ensures)
