-- The texts of the numbers so far are put.
use Rattle.std.proofs.Common.{◌≡◌, length, take}
use Rattle.text_out.specs.Puts.{Puts}
use Rattle.answer_text.specs.Headers.{numbers_of, number_texts, each_texts}
use Rattle.answer_text.proofs.header_text.numbers.Given as goal

abbrev pub invariant-loop-n : goal.invariant-loop-n
invariant-loop-n l =
    (length l.out ≡ length l.initial.out) × Puts l.initial.out l.fn.at (each_texts number_texts (take l.n-index (numbers_of l.fn.h))) l.behind l.out
