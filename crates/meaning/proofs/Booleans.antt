-- Two tests in one.
use mathlib.Core.Bool.{Bool, true, false, ◌&&◌}
use lib.Dec.{T}

pub and_left : (a b : Bool) → T (a && b) → T a
and_left true b h = tt
and_left false b h = h

pub and_right : (a b : Bool) → T (a && b) → T b
and_right true b h = h
and_right false b h = absurd h

pub and_both : (a b : Bool) → T a → T b → T (a && b)
and_both true b h k = k
and_both false b h k = h
