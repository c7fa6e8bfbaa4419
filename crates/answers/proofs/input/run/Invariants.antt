-- What is held fits in the buffer.
use Rattle.std.proofs.Common.{◌≡◌, ◌≤◌, ℕ, length}
use Rattle.answers.specs.declared.input.Rest.TheVariants.{Held}
use Rattle.answers.proofs.input.run.Given as goal

abbrev pub invariant-turns : goal.invariant-turns
invariant-turns g l = (k : ℕ) → l.rest ≡ Held k → k ≤ length l.input
