-- The texts of the entries so far are put.
use Rattle.std.proofs.Common.{◌≡◌, length, take}
use Rattle.text_out.specs.Puts.{Puts}
use Rattle.answer_text.specs.Headers.{entries_of, entry_texts, each_texts}
use Rattle.answer_text.proofs.header_text.entries.Given as goal

abbrev pub invariant-loop-e : goal.invariant-loop-e
invariant-loop-e l =
    (length l.out ≡ length l.initial.out) × Puts l.initial.out l.fn.at (each_texts entry_texts (take l.e-index (entries_of l.fn.f))) l.behind l.out
