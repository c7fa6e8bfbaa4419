-- What putting a text into a buffer leaves there, and the place behind it. A text that the buffer has no room for is left out whole.
use Rattle.std.specs.Prelude.{ℕ, ◌+◌, true, false, ◌≡◌, List, [], ◌∷◌, length, leb}
use Rattle.std.proofs.lemmas.List.Edits.{sets}

pub record Put : Type 0 where
  pub place : ℕ
  pub after : List ℕ

unfoldable pub put_text : List ℕ → ℕ → List ℕ → Put
put_text out at xs = elim (leb (at + length xs) (length out)) [
  | true ↦ record { place = at + length xs; after = sets out at xs }
  | false ↦ record { place = at; after = out }
]

-- several texts, one behind the other
unfoldable pub put_all : List ℕ → ℕ → List (List ℕ) → Put
put_all out at [] = record { place = at; after = out }
put_all out at (xs ∷ more) = put_all (put_text out at xs).after (put_text out at xs).place more

-- that putting them gives this place behind them and leaves these bytes
pub record Puts (out : List ℕ) (at : ℕ) (texts : List (List ℕ)) (behind : ℕ) (bytes : List ℕ) : Type 0 where
  pub place : behind ≡ (put_all out at texts).place
  pub after : bytes ≡ (put_all out at texts).after
