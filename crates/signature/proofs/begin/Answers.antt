-- Where a key or a bracket is due no type begins; elsewhere the mark stands above the others.
use native.Mathlib.Omega.{arith}
use Rattle.signature.proofs.MarkLaws.{begin-none, begin-one}
use Rattle.signature.proofs.begin.Goals as goal

pub returns-in-End : goal.returns-in-End
returns-in-End c = λ k n b. begin-none b _ c.in-End.is

pub returns-in_default : goal.returns-in_default
returns-in_default c = λ k n b. begin-one b _ c.in_default.not-End c.in_default.not-Key (omega (arith, c.requires.room)) (omega arith)
