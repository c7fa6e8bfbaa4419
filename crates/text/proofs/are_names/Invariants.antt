-- The loop's invariant: what is left, and whether a slash came last, decides.
use mathlib.Core.Bool.{true}
use mathlib.Core.Path.{◌≡◌}
use lib.ListN.{drop}
use Rattle.meaning.specs.Text.{names}
use Rattle.text.proofs.are_names.Given as goal

abbrev pub invariant-loop-b : goal.invariant-loop-b
invariant-loop-b l = names l.s true ≡ names (drop l.b-index l.s) l.after_slash
