-- The loop's invariant: what is left to spell leads to what all of it leads to.
use Prim.Native.Nat.{◌+◌, ◌*◌, ◌-◌, ◌≤◌}
use mathlib.Core.Path.{◌≡◌}
use lib.ListN.{length, drop}
use lib.Seq.{sets}
use Rattle.text_out.specs.Digits.{hex_text}
use Rattle.text_out.proofs.pair.Given as goal

abbrev pub invariant-loop-i : goal.invariant-loop-i
invariant-loop-i l = (l.i ≤ length l.s) × (length l.out ≡ length l.initial.out) × (sets l.out (l.at + 2 * l.i) (hex_text (drop l.i l.s)) ≡ sets l.initial.out l.at (hex_text l.s))

abbrev pub decreases-loop-i : goal.decreases-loop-i
decreases-loop-i l = length l.s - l.i
