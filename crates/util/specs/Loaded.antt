-- What a loaded integer is: the number that w bytes of a buffer stand for, which w bytes can hold.
use Rattle.std.specs.Prelude.{ℕ, ◌<◌, ◌^◌, List, ◌≡◌, take, drop}
use Rattle.meaning.specs.Number.{load}
use Rattle.meaning.specs.declared.Order.{Order}

pub record Loaded (o : Order) (w : ℕ) (b : List ℕ) (at r : ℕ) : Type 0 where
  pub is : r ≡ load o (take w (drop at b))
  pub small : r < 256 ^ w
