-- The arms are those of the definition.
use Rattle.std.proofs.Common.{arith}
use Rattle.std.proofs.lemmas.Bool.Decides.{nat_tests}
use Rattle.signature.specs.Ends.{bracketed}
use Rattle.signature.proofs.EndLaws.{less-sub}
use Rattle.signature.proofs.bracket.Goals as goal

pub returns-in-40 : goal.returns-in-40
unfolding bracketed
returns-in-40 c = grind (arith, nat_tests)

pub returns-in-41 : goal.returns-in-41
unfolding bracketed
returns-in-41 c = let e = less-sub c.args.depth in grind (arith, nat_tests)

pub returns-in_default : goal.returns-in_default
unfolding bracketed
returns-in_default c = grind (arith, nat_tests)
