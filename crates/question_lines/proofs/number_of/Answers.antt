-- Each answer is that of what is left to read.
use Rattle.std.proofs.Common.{◌≡◌, ◌+◌, ◌*◌, ◌^◌, ◌≤◌, ◌<◌, length, get_or, drop, sym, ap, ◌∙◌, arith, eqb-true}
use Rattle.std.proofs.lemmas.Bool.Decides.{nat_tests}
use Rattle.std.specs.Char.{digit_value}
use Rattle.question_lines.specs.Words.{number_of}
use Rattle.question_lines.proofs.Laws.{rest_of, rest_at_other, rest_at_digit, rest_of_large, rest_of_none, rest_of_all}
use Rattle.question_lines.proofs.number_of.Goals as goal

pub returns-then-is_empty : goal.returns-then-is_empty
unfolding number_of
returns-then-is_empty c =
    let none : length c.args.s.now ≡ 0 = eqb-true _ _ (sym c.is_empty.ensures ∙ c.if-is_empty.true) in
    rw none

pub returns-in_err-d : goal.returns-in_err-d
returns-in_err-d c =
    let l = c.loop-c in
    let s = c.args.s.now in
    let none = rest_at_other l.n s l.c-index (omega arith) c.in_err-d.ensures.value in
    c.from_residual.ensures ∙ sym (rest_of_all s (omega arith) ∙ sym l.invariant.1 ∙ none)

pub returns-in_err-checked_mul : goal.returns-in_err-checked_mul
returns-in_err-checked_mul c =
    let l = c.loop-c in
    let s = c.args.s.now in
    let value = digit_value (get_or s l.c-index 0) in
    let digit = c.in_ok-d.ensures.value in
    let more = rest_at_digit l.n s l.c-index (omega arith) digit.0 in
    let large = rest_of_large (l.n * 10 + value) (drop (l.c-index + 1) s) (omega (arith, c.in_err-checked_mul.ensures)) in
    c.from_residual-in_err-checked_mul.ensures ∙ sym (rest_of_all s (omega arith) ∙ sym l.invariant.1 ∙ more ∙ large)

pub returns-in_err-n : goal.returns-in_err-n
returns-in_err-n c =
    let l = c.loop-c in
    let s = c.args.s.now in
    let value = digit_value (get_or s l.c-index 0) in
    let digit = c.in_ok-d.ensures.value in
    let more = rest_at_digit l.n s l.c-index (omega arith) digit.0 in
    let above : 2 ^ 64 ≤ l.n * 10 + value = omega (arith, c.in_err-n.ensures, c.in_ok-checked_mul.ensures.1) in
    let large = rest_of_large (l.n * 10 + value) (drop (l.c-index + 1) s) above in
    c.from_residual-in_err-n.ensures ∙ sym (rest_of_all s (omega arith) ∙ sym l.invariant.1 ∙ more ∙ large)

pub loop-c-preserved : goal.loop-c-preserved
loop-c-preserved c =
    let l = c.loop-c in
    let s = c.args.s.now in
    let value = digit_value (get_or s l.c-index 0) in
    let digit = c.in_ok-d.ensures.value in
    let more = rest_at_digit l.n s l.c-index (omega arith) digit.0 in
    let n : c.in_ok-n.n ≡ l.n * 10 + value = omega (arith, c.in_ok-n.ensures, c.in_ok-checked_mul.ensures.1) in
    (omega (arith, c.in_ok-n.ensures), ap (λ k. rest_of k (drop (l.c-index + 1) s)) n ∙ sym more ∙ l.invariant.1)

pub returns : goal.returns
returns c =
    let l = c.loop-c in
    let s = c.args.s.now in
    let some : 0 < length s = grind (arith, nat_tests, c.is_empty.ensures, c.if-is_empty.false) in
    sym (rest_of_all s some ∙ sym l.invariant.1 ∙ rest_of_none l.n s l.c-index (omega arith) (omega arith))
