-- A sign is carried on by the cast to an unsigned number of 64 bits.
use Prim.Native.Nat.{ℕ}
use mathlib.Core.Path.{◌≡◌, refl, sym, ap, ◌∙◌}
use lib.IntN.{ℤ}
use mir.Syntax.{w16, w32, w64}
use mir.Val.{SFits, to_z, of_z}
use mir.Facts.{to_z-of_z}
use borrow.Author.Rules.{rules}
use Rattle.meaning.specs.declared.FixedValue.{FixedValue}
use Rattle.read.specs.Bits.{bits_of, extended}
use Rattle.read.proofs.Signs.{carried_on}
use Rattle.read.proofs.bits.Goals as goal

is : {v w : FixedValue} → v ≡ w → bits_of w ≡ bits_of v
is e = sym (ap bits_of e)

carried : {z r : ℤ} {n : ℕ} → SFits w64 r → n ≡ of_z w64 (to_z w64 (of_z w64 r)) → r ≡ z → n ≡ extended z
carried fits q e = q ∙ carried_on _ ∙ ap extended (to_z-of_z fits ∙ e)

pub returns-in-Int16 : goal.returns-in-Int16
returns-in-Int16 c = carried (search rules) c.cast_unsigned.ensures (c.from-in-Int16.ensures ∙ to_z-of_z {w = w16} (search rules)) ∙ is c.in-Int16.is

pub returns-in-Int32 : goal.returns-in-Int32
returns-in-Int32 c = carried (search rules) c.cast_unsigned-in-Int32.ensures (c.from-in-Int32.ensures ∙ to_z-of_z {w = w32} (search rules)) ∙ is c.in-Int32.is

pub returns-in-Int64 : goal.returns-in-Int64
returns-in-Int64 c = carried (search rules) c.cast_unsigned-in-Int64.ensures refl ∙ is c.in-Int64.is
