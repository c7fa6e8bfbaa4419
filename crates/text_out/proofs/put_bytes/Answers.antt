-- The text of one or more bytes is twice as long, which is what the tests leave room for.
use native.Mathlib.Omega.{arith}
use Rattle.text_out.specs.Digits.{hex_text}
use Rattle.text_out.proofs.Laws.{fitting, left_out, length-hex, some-text, no_text}
use Rattle.text_out.proofs.put_bytes.Goals as goal

pub returns-then-s-eq0 : goal.returns-then-s-eq0
returns-then-s-eq0 c =
    rw (no_text c.args.s.now c.if-s-eq0.true) c.put.ensures

pub returns-then-s-out : goal.returns-then-s-out
returns-then-s-out c =
    let a = c.args in
    rw (some-text a.s.now c.if-s-eq0.false)
    (fitting a.out.now (hex_text a.s.now) _ a.at _ (omega (arith, length-hex a.s.now))
    (omega (arith, length-hex a.s.now)) c.pair.ensures)

pub returns-else-s-out : goal.returns-else-s-out
returns-else-s-out c =
    let a = c.args in
    rw (some-text a.s.now c.if-s-eq0.false) (left_out a.out.now (hex_text a.s.now) a.at (omega (arith, length-hex a.s.now)))

pub returns-else-at-out : goal.returns-else-at-out
returns-else-at-out c =
    let a = c.args in
    rw (some-text a.s.now c.if-s-eq0.false) (left_out a.out.now (hex_text a.s.now) a.at (omega (arith, length-hex a.s.now)))
