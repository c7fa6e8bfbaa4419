-- In each arm the code is that of one type, whose value it makes; the last arm is left with the only code that no other arm took.
use Prim.Native.Nat.{ℕ}
use native.Mathlib.Omega.{arith}
use mathlib.Core.Path.{refl, ap, ◌∙◌}
use mir.Syntax.{w16, w32, w64}
use mir.Facts.{to_z-of_z}
use Rattle.meaning.specs.Types.{Fix, byte, bool, i16, u16, i32, u32, i64, u64, dbl, fd}
use Rattle.meaning.specs.FixedValue.{fixed_value}
use Rattle.meaning.specs.declared.FixedValue.{FixedValue}
use Rattle.meaning.specs.declared.FixedValue.TheVariants.{Int16, Int32, Int64}
use Rattle.read.proofs.FixedTypes.{told, is-fd}
use Rattle.read.proofs.Signs.{read_signed}
use borrow.Author.Rules.{sfits_of}
use Rattle.read.proofs.value.Goals as goal

-- the value of a type that has these bits
abbrev Of : ℕ → Fix → FixedValue
Of bits t = fixed_value t bits

pub returns-in-121 : goal.returns-in-121
unfolding fixed_value
returns-in-121 c = told (Of c.args.bits) _ byte _ c.in-121.is refl

pub returns-in-98 : goal.returns-in-98
unfolding fixed_value
returns-in-98 c = told (Of c.args.bits) _ bool _ c.in-98.is refl

pub returns-in-110 : goal.returns-in-110
unfolding fixed_value
returns-in-110 c = told (Of c.args.bits) _ i16 _ c.in-110.is (ap Int16 (to_z-of_z {w = w16} (sfits_of {w = w16} c.cast_signed.type_inv) ∙ c.cast_signed.ensures ∙ read_signed w16 _))

pub returns-in-113 : goal.returns-in-113
unfolding fixed_value
returns-in-113 c = told (Of c.args.bits) _ u16 _ c.in-113.is refl

pub returns-in-105 : goal.returns-in-105
unfolding fixed_value
returns-in-105 c = told (Of c.args.bits) _ i32 _ c.in-105.is (ap Int32 (to_z-of_z {w = w32} (sfits_of {w = w32} c.cast_signed-in-105.type_inv) ∙ c.cast_signed-in-105.ensures ∙ read_signed w32 _))

pub returns-in-117 : goal.returns-in-117
unfolding fixed_value
returns-in-117 c = told (Of c.args.bits) _ u32 _ c.in-117.is refl

pub returns-in-120 : goal.returns-in-120
unfolding fixed_value
returns-in-120 c =
    let read = c.cast_signed-in-120.ensures ∙ read_signed w64 _ in
    let same = ap (fixed_value i64) (omega arith) in
    told (Of c.args.bits) _ i64 _ c.in-120.is (ap Int64 (to_z-of_z {w = w64} (sfits_of {w = w64} c.cast_signed-in-120.type_inv) ∙ read) ∙ same)

pub returns-in-116 : goal.returns-in-116
unfolding fixed_value
returns-in-116 c = told (Of c.args.bits) _ u64 _ c.in-116.is refl

pub returns-in-100 : goal.returns-in-100
unfolding fixed_value
returns-in-100 c = told (Of c.args.bits) _ dbl _ c.in-100.is c.double.ensures

pub returns-in_default : goal.returns-in_default
unfolding fixed_value
returns-in_default c = told (Of c.args.bits) _ fd _ (is-fd _ c.requires.type c.requires.coded c.in_default.in_default-own.rest) refl
