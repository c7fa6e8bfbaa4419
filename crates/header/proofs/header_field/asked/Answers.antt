-- Each code that is named asks for its type, and all others for a string.
use mathlib.Core.Path.{refl}
use native.Mathlib.Omega.{arith}
use Rattle.meaning.specs.Types.{fix, u32, path, sig}
use Rattle.meaning.specs.Message.{wants}
use Rattle.header.proofs.header_field.CodeLaws.{asked_is, asked-string}
use Rattle.header.proofs.header_field.asked.Goals as goal

pub returns-in-1 : goal.returns-in-1
unfolding wants
returns-in-1 c = λ k q. asked_is _ 1 path c.in-1.is refl k q

pub returns-in-5 : goal.returns-in-5
unfolding wants
returns-in-5 c = λ k q. asked_is _ 5 (fix u32) c.in-5.is refl k q

pub returns-in-8 : goal.returns-in-8
unfolding wants
returns-in-8 c = λ k q. asked_is _ 8 sig c.in-8.is refl k q

pub returns-in-9 : goal.returns-in-9
unfolding wants
returns-in-9 c = λ k q. asked_is _ 9 (fix u32) c.in-9.is refl k q

pub returns-in_default : goal.returns-in_default
returns-in_default c = λ k q. asked-string _ (λ z. omega arith) (λ z. omega arith) (λ z. omega arith) (λ z. omega arith) k q
