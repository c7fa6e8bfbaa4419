-- Each answer is that of the tests that lead to it.
use Rattle.std.proofs.Common.{◌≡◌, ◌<◌, ◌/◌, ◌%◌, Some, None, true, false}
use Rattle.std.proofs.Common.{length, sym, ◌∙◌, arith, eq-eqb, ne_eqb, le-ltb, lt-ltb, le-leb}
use Rattle.std.proofs.lemmas.Bool.{eqb-true, lt-leb}
use Rattle.std.proofs.lemmas.Bool.Decides.{nat_tests}
use Rattle.std.proofs.lemmas.List.Edits.{sets}
use Rattle.question_lines.specs.Digits.{all_digits, pairs}
use Rattle.question_lines.specs.Words.{taken_of}
use Rattle.question_lines.proofs.Laws.{of_dash, not_dash}
use Rattle.question_lines.proofs.bytes_of.Goals as goal
use Rattle.question_lines.proofs.bytes_of.Goals.{then-is_empty-via-then-is_empty as empty}
use Rattle.question_lines.proofs.bytes_of.Goals.{then-is_empty-via-else-is_empty+then-s-ne0 as odd}
use Rattle.question_lines.proofs.bytes_of.Goals.{then-is_empty-via-else-is_empty+else-s-ne0+then-out-size as large}
use Rattle.question_lines.proofs.bytes_of.Goals.{then-is_empty-via-else-is_empty+else-s-ne0+else-out-size+then-not-all_digits as other}

pub returns-then-eq : goal.returns-then-eq
returns-then-eq c =
    let taken = of_dash c.args.s.now _ c.args.out.now _ c.eq.ensures c.as_slice.ensures c.if-eq.true in
    record { value = rw taken; out_after = rw taken }

pub returns-then-is_empty : goal.returns-then-is_empty
returns-then-is_empty c =
    let s = c.args.s.now in
    let out = c.args.out.now in
    let taken = not_dash s _ out _ c.eq.ensures c.as_slice.ensures c.if-eq.false in
    let none : taken_of s out ≡ record { answer = None; after = out } =
    elim c.then-is_empty.branch [
      | empty w ↦
          let short = eqb-true (length s) 0 (sym c.is_empty.ensures ∙ w.if-is_empty.true) in
          taken ∙ rw (le-ltb 0 (length s) (omega arith))
      | odd w ↦
          taken ∙ rw (lt-ltb 0 (length s) (omega arith), ne_eqb (length s % 2) 0 w.if-s-ne0.true)
      | large w ↦
          let no_room = lt-leb (length s / 2) (length out) w.if-out-size.true in
          taken ∙ rw (lt-ltb 0 (length s) (omega arith), eq-eqb (length s % 2) 0 w.if-s-ne0.false, no_room)
      | other w ↦
          let some : 0 < length s = grind (arith, nat_tests, c.is_empty.ensures, w.if-is_empty.false) in
          let room = le-leb (length s / 2) (length out) w.if-out-size.false in
          let digits : all_digits 16 s ≡ false = sym w.all_digits.ensures ∙ w.if-not-all_digits.true in
          taken ∙ rw (lt-ltb 0 (length s) some, eq-eqb (length s % 2) 0 w.if-s-ne0.false, room, digits)
    ] in
    record { value = rw none; out_after = rw none }

pub returns : goal.returns
returns c =
    let s = c.args.s.now in
    let out = c.args.out.now in
    let taken = not_dash s _ out _ c.eq.ensures c.as_slice.ensures c.if-eq.false in
    let some : 0 < length s = grind (arith, nat_tests, c.is_empty.ensures, c.if-is_empty.false) in
    let room = le-leb (length s / 2) (length out) c.if-out-size.false in
    let digits : all_digits 16 s ≡ true = sym c.all_digits.ensures ∙ c.if-not-all_digits.false in
    let tests : taken_of s out ≡ record { answer = Some (length s / 2); after = sets out 0 (pairs s) } =
    taken ∙ rw (lt-ltb 0 (length s) some, eq-eqb (length s % 2) 0 c.if-s-ne0.false, room, digits) in
    record { value = rw tests; out_after = rw tests c.unpair.ensures }
