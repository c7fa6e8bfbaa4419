-- A number has the size that the table gives for one of the codes of its arm.
use mathlib.Core.Logic.{⊎_elim}
use Rattle.meaning.specs.Types.{byte, i16, u16, i32, u32, i64, u64, dbl, fd}
use Rattle.types.proofs.CodeLaws.{size_is, size-aligns}
use Rattle.basic.proofs.BaseLaws.{as_number}
use Rattle.basic.proofs.base.Goals as goal

pub returns-in-121 : goal.returns-in-121
returns-in-121 c = λ b e. as_number _ _ _ b _ _ _ e c.number.ensures byte (λ x. tt) (size_is byte _ c.size.ensures) c.in-121.is

pub returns-in-110 : goal.returns-in-110
returns-in-110 c = λ b e.
    let n = size_is u16 _ c.size-in-110.ensures in
    let is = as_number _ _ _ b _ _ _ e c.number-in-110.ensures in
    ⊎_elim (is i16 (λ x. tt) n) (is u16 (λ x. tt) n) c.in-110.is

pub returns-in-105 : goal.returns-in-105
returns-in-105 c = λ b e.
    let n = size_is u32 _ c.size-in-105.ensures in
    let is = as_number _ _ _ b _ _ _ e c.number-in-105.ensures in
    ⊎_elim (is i32 (λ x. tt) n) (is u32 (λ x. tt) n) c.in-105.is

pub returns-in-104 : goal.returns-in-104
returns-in-104 c = λ b e. as_number _ _ _ b _ _ _ e c.number-in-104.ensures fd (λ x. tt) (size_is fd _ c.size-in-104.ensures) c.in-104.is

pub returns-in-120 : goal.returns-in-120
returns-in-120 c = λ b e.
    let n = size_is u64 _ c.size-in-120.ensures in
    let is = as_number _ _ _ b _ _ _ e c.number-in-120.ensures in
    ⊎_elim (is dbl (λ x. tt) n) (⊎_elim (is u64 (λ x. tt) n) (is i64 (λ x. tt) n)) c.in-120.is

pub number-requires : goal.number-requires
number-requires c = record { inside = c.requires.inside; alignment = size-aligns byte _ c.size.ensures }

pub number-requires-in-110 : goal.number-requires-in-110
number-requires-in-110 c = record { inside = c.requires.inside; alignment = size-aligns u16 _ c.size-in-110.ensures }

pub number-requires-in-105 : goal.number-requires-in-105
number-requires-in-105 c = record { inside = c.requires.inside; alignment = size-aligns u32 _ c.size-in-105.ensures }

pub number-requires-in-104 : goal.number-requires-in-104
number-requires-in-104 c = record { inside = c.requires.inside; alignment = size-aligns fd _ c.size-in-104.ensures }

pub number-requires-in-120 : goal.number-requires-in-120
number-requires-in-120 c = record { inside = c.requires.inside; alignment = size-aligns u64 _ c.size-in-120.ensures }
