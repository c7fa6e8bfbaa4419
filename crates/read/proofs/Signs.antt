-- Two's complement: the library's casts give what the meaning says of it, at every width.
use Prim.Native.Nat.{ℕ, suc, ◌-◌, ◌^◌}
use native.Mathlib.Omega.{arith}
use mathlib.Core.Bool.{Bool, true, false}
use mathlib.Core.Path.{◌≡◌, refl, ap}
use lib.IntN.{ℤ, pos, negsuc}
use lib.Dec.{ltb}
use mir.Syntax.{Width, w8, w16, w32, w64, w128}
use mir.Val.{to_z, of_z, sel, hbits, bits}
use Rattle.meaning.specs.Text.{pick}
use Rattle.meaning.specs.FixedValue.{signed}
use Rattle.read.specs.Bits.{extended}

half : (w : Width) → bits w - 1 ≡ hbits w
half w8 = refl
half w16 = refl
half w32 = refl
half w64 = refl
half w128 = refl

chosen : (b : Bool) (x y z : ℤ) → y ≡ z → sel b x y ≡ pick b x z
chosen true x y z e = refl
chosen false x y z e = e

pub read_signed : (w : Width) (n : ℕ) → to_z w n ≡ signed (bits w) n
read_signed w n =
    let e : 2 ^ bits w - suc n ≡ 2 ^ bits w - 1 - n = omega arith in
    rw (half w) (chosen (ltb n (2 ^ hbits w)) (pos n) (negsuc (2 ^ bits w - suc n)) (negsuc (2 ^ bits w - 1 - n)) (ap negsuc e))

pub carried_on : (z : ℤ) → of_z w64 z ≡ extended z
unfolding extended
carried_on (pos n) = refl
carried_on (negsuc m) = omega arith
