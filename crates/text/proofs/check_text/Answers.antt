-- Plain bytes change nothing of the answer; what follows them is walked.
use Prim.Native.Nat.{ℕ}
use mathlib.Core.Path.{ap, sym, ◌∙◌}
use native.Mathlib.Omega.{arith}
use lib.ListN.{drop}
use Rattle.std.proofs.lemmas.List.{take_rest}
use Rattle.text.specs.Verdict.{text_fault}
use Rattle.text.proofs.Scans.{plain-le, plain-skip, plain-whole}
use Rattle.text.proofs.check_text.Goals as goal

pub returns-then-plain-s : goal.returns-then-plain-s
returns-then-plain-s c = plain-whole _ (sym c.plain_bytes-plain.ensures ∙ c.if-plain-s.true)

pub slice_bounds-walk-count : goal.slice_bounds-walk-count
slice_bounds-walk-count c = omega (arith, c.plain_bytes-plain.ensures, plain-le c.args.s.now)

pub slice_bounds-walk-start : goal.slice_bounds-walk-start
slice_bounds-walk-start c = omega (arith, c.plain_bytes-plain.ensures, plain-le c.args.s.now)

pub returns : goal.returns
returns c =
    let s = c.args.s.now in
    c.walk.ensures ∙ ap text_fault (take_rest s _) ∙ ap (λ (n : ℕ). text_fault (drop n s)) c.plain_bytes-plain.ensures ∙ sym (plain-skip s)
