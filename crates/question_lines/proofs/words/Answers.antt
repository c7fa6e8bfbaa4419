-- Each turn puts a word, and passes the space behind it.
use Rattle.std.proofs.Common.{◌+◌, refl, ap, ◌∙◌, arith, length-set}
use Rattle.question_lines.specs.Words.{occurrences, words_of}
use Rattle.question_lines.proofs.Laws.{one_gap_less, words-turn, words-all}
use Rattle.question_lines.proofs.words.Goals as goal

pub loop-i-init : goal.loop-i-init
loop-i-init c = record {
  long = refl;
  gaps_left = omega (arith, c.count-gaps.ensures);
  so_far = ap (λ n. words_of n c.args.line.now) (omega arith);
}

pub loop-i-preserved : goal.loop-i-preserved
loop-i-preserved c =
    let l = c.loop-i in
    let split = c.split_word.ensures in
    let left = l.invariant.gaps_left in
    record {
      long = length-set _ _ _ ∙ l.invariant.long;
      gaps_left = ap (λ s. occurrences 32 s) split.rest ∙ one_gap_less 32 l.rest.now ∙ omega (arith, left);
      so_far = words-turn (λ w. w.now) l.words _ 9 l.i l.rest.now _ _ (omega arith) l.invariant.long split.word split.rest l.invariant.so_far;
    }

pub returns : goal.returns
returns c =
    let l = c.loop-i in
    record {
      words = words-all (λ w. w.now) l.words 9 l.i l.rest.now _ (omega arith) l.invariant.long l.invariant.so_far;
      number = ap (λ n. n + 1) c.count-gaps.ensures;
    }
