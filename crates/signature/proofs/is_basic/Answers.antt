-- The table has an alignment for each code of a type: of the array's, the struct's and the variant's too, which are no basic types'.
use mathlib.Core.Path.{ap, sym, ◌∙◌}
use Prim.Native.Nat.{ℕ}
use mathlib.Core.Bool.{not}
use lib.Dec.{eqb}
use native.Mathlib.Omega.{arith}
use borrow.Author.Rules.{rules}
use Rattle.signature.proofs.CodeLaws.{composite-code, table-code}
use Rattle.signature.proofs.is_basic.Goals as goal

pub returns-in-97 : goal.returns-in-97
returns-in-97 c = sym (composite-code c.in-97.is)

pub returns-in_default : goal.returns-in_default
returns-in_default c =
    let x = c.args.c in
    sym (table-code x (omega arith) (search rules) ∙ ap (λ (n : ℕ). not (eqb n 0)) (sym c.align.ensures))
