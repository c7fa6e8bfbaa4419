-- A number, or a text behind its length, by the type's code.
use native.Mathlib.Omega.{arith}
use Rattle.header.proofs.header_field.KnownLaws.{is_number, is-spelling, is-text}
use Rattle.header.proofs.header_field.entry_of.Goals as goal

pub load32-requires : goal.load32-requires
load32-requires c =
    (is_number c.requires.stands c.in-117.is).0

pub overflow_add-first : goal.overflow_add-first
overflow_add-first c = omega (arith, (is-spelling c.requires.stands c.in-103.is).0)

pub overflow_sub-result : goal.overflow_sub-result
overflow_sub-result c = omega (arith, (is-spelling c.requires.stands c.in-103.is).0)

pub overflow_sub-result-in-103 : goal.overflow_sub-result-in-103
overflow_sub-result-in-103 c = omega (arith, (is-spelling c.requires.stands c.in-103.is).0)

pub overflow_add-first-in_default : goal.overflow_add-first-in_default
overflow_add-first-in_default c = omega (arith, (is-text c.requires.stands (λ z. omega arith) (λ z. omega arith)).0)

pub overflow_sub-result-in_default : goal.overflow_sub-result-in_default
overflow_sub-result-in_default c = omega (arith, (is-text c.requires.stands (λ z. omega arith) (λ z. omega arith)).0)

pub overflow_sub-result-in_default-2 : goal.overflow_sub-result-in_default-2
overflow_sub-result-in_default-2 c = omega (arith, (is-text c.requires.stands (λ z. omega arith) (λ z. omega arith)).0)

pub returns-in-117 : goal.returns-in-117
returns-in-117 c = λ code b v h. (is_number h c.in-117.is).1 _ c.load32.ensures.is

pub returns-in-103 : goal.returns-in-103
returns-in-103 c = λ code b v h. (is-spelling h c.in-103.is).1

pub returns-in_default : goal.returns-in_default
returns-in_default c = λ code b v h. (is-text h (λ z. omega arith) (λ z. omega arith)).1
