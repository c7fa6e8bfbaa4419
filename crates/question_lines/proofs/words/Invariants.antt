-- The words so far and those of what is left are those of the line, and of the spaces one is passed in each turn.
use Rattle.std.proofs.Common.{◌≡◌, ◌-◌, ◌++◌, length, map, take}
use Rattle.question_lines.specs.Words.{occurrences, words_of}
use Rattle.question_lines.proofs.words.Given as goal

abbrev pub invariant-loop-i : goal.invariant-loop-i
invariant-loop-i l = record {
  long : length l.words ≡ 9;
  gaps_left : occurrences 32 l.rest ≡ l.gaps - l.i;
  so_far : map (λ w. w.now) (take l.i l.words) ++ words_of (9 - l.i) l.rest ≡ words_of 9 l.line;
}
