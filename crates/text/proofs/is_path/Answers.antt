-- The first byte and the length are what `is_path` looks at.
use native.Mathlib.Omega.{arith}
use Prim.Native.Nat.{ℕ}
use mathlib.Core.Bool.{true}
use mathlib.Core.List.{List}
use mathlib.Core.Path.{ap, ◌∙◌}
use Rattle.meaning.specs.Text.{names}
use Rattle.std.proofs.lemmas.List.{take_rest}
use Rattle.text.proofs.Names.{path-root, path-rest, path-empty, path-none}
use Rattle.text.proofs.is_path.Goals as goal

pub returns-in-47 : goal.returns-in-47
returns-in-47 c = path-root _ (omega arith) (omega arith)

pub returns-in-47-2 : goal.returns-in-47-2
returns-in-47-2 c = c.are_names.ensures ∙ ap (λ (l : List ℕ). names l true) (take_rest _ 1) ∙ path-rest _ (omega arith) (omega arith)

pub returns-in_default : goal.returns-in_default
returns-in_default c = path-empty _ (omega arith)

pub returns-in_default-2 : goal.returns-in_default-2
returns-in_default-2 c = path-none _ (λ e. omega arith)

pub returns-in_default-3 : goal.returns-in_default-3
returns-in_default-3 c = path-none _ (λ e. omega arith)
