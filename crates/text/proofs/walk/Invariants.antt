-- The loop's invariant: the scan of what is left, from where the walk is, decides about UTF-8; and the flag or what is left, about zeros.
use mathlib.Core.Bool.{◌&&◌, not}
use mathlib.Core.Path.{◌≡◌}
use lib.ListN.{drop}
use Rattle.meaning.specs.Text.{scan, utf8, no_zero}
use Rattle.text.proofs.walk.Given as goal

abbrev pub invariant-loop-b : goal.invariant-loop-b
invariant-loop-b l = (utf8 l.s ≡ scan (drop l.b-index l.s) l.at.left l.at.low l.at.high) × (no_zero l.s ≡ (not l.zero && no_zero (drop l.b-index l.s)))
