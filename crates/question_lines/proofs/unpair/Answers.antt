-- Each pair is stored in its place.
use Rattle.std.proofs.Common.{◌≡◌, ◌+◌, ◌*◌, get_or, ap, ◌∙◌, arith, length-set}
use Rattle.std.proofs.lemmas.List.{drop_all}
use Rattle.question_lines.specs.Digits.{digit_of, pairs}
use Rattle.question_lines.proofs.Laws.{pair-digit, pairs-turn}
use Rattle.question_lines.proofs.unpair.Goals as goal

pub digit_value-requires : goal.digit_value-requires
digit_value-requires c =
    let i = c.loop-i.i in
    let digit = pair-digit c.args.s.now _ i 0 (2 * i) c.as_chunks.ensures.front (omega arith) (omega arith) (omega arith) c.requires.2 in
    digit.1

pub digit_value-requires-in-loop-i : goal.digit_value-requires-in-loop-i
digit_value-requires-in-loop-i c =
    let i = c.loop-i.i in
    let digit = pair-digit c.args.s.now _ i 1 (2 * i + 1) c.as_chunks.ensures.front (omega arith) (omega arith) (omega arith) c.requires.2 in
    digit.1

pub loop-i-preserved : goal.loop-i-preserved
loop-i-preserved c =
    let l = c.loop-i in
    let i = l.i in
    let s = c.args.s.now in
    let front = c.as_chunks.ensures.front in
    let one = pair-digit s _ i 0 (2 * i) front (omega arith) (omega arith) (omega arith) c.requires.2 in
    let two = pair-digit s _ i 1 (2 * i + 1) front (omega arith) (omega arith) (omega arith) c.requires.2 in
    let high : c.digit_value.result ≡ digit_of (get_or s (2 * i) 0) = c.digit_value.ensures.value ∙ ap digit_of one.0 in
    let low : c.digit_value-in-loop-i.result ≡ digit_of (get_or s (2 * i + 1) 0) = c.digit_value-in-loop-i.ensures.value ∙ ap digit_of two.0 in
    let turn = pairs-turn l.out _ s i (omega arith) l.invariant.1 in
    (simp length-set l.invariant.0, rw (high, low) turn)

pub returns : goal.returns
unfolding pairs
returns c =
    let l = c.loop-i in
    rw (drop_all (2 * l.i) c.args.s.now (omega arith)) at l.invariant.1
