-- A write that is done ends at or behind the place where it began, and is handed out as what it says.
use Prim.Native.Nat.{ℕ, ◌+◌}
use native.Mathlib.Omega.{arith}
use mathlib.Core.Bool.{Bool, true, false}
use mathlib.Core.List.{List}
use mathlib.Core.Path.{◌≡◌, refl, ap, subst, sym, ◌∙◌}
use lib.ListN.{length}
use lib.Dec.{leb}
use Rattle.meaning.specs.Writers.{Content, bytes, faulty, put_at, put_content, write_at}
use Rattle.meaning.specs.declared.Order.{Order}
use Rattle.std.specs.Prelude.{Result}
use Rattle.meaning.specs.declared.Place.{Place}
use Rattle.meaning.specs.declared.Refusal.{Refusal}
use Rattle.structs.specs.declared.MtAnswer.{MtAnswer}
use Rattle.structs.specs.Answers.{Past, written_of}

module _ (b : List ℕ) (at : ℕ) where
  put-past : (xs : List ℕ) → Past at (put_at b at xs).answer
  unfolding put_at
  put-past xs = go (leb (at + length xs) (length b)) refl
    where
      go : (a : Bool) → leb (at + length xs) (length b) ≡ a → Past at (put_at b at xs).answer
      go true e = rw (put_at, e, Past) (omega arith)
      go false e = rw (put_at, e, Past) tt

  content-past : (x : Content) → Past at (put_content x b at).answer
  content-past (bytes xs) = put-past xs
  content-past (faulty f) = tt

  pub write-past : (x : Content) → Past at (write_at x b at).answer
  unfolding write_at
  write-past x = go (leb at (length b)) refl
    where
      go : (a : Bool) → leb at (length b) ≡ a → Past at (write_at x b at).answer
      go true e = rw (write_at, e) (content-past x)
      go false e = rw (write_at, e, Past) tt

-- a write in an order that is named, handed out: what was made of it, and the buffer that it left
module _ (make : Order → Content) (b : List ℕ) (at : ℕ) {o p : Order} (named : o ≡ p) {r : Result Place Refusal} {after : List ℕ}
    (wrote : (r ≡ (write_at (make o) b at).answer) × (after ≡ (write_at (make o) b at).after)) where
  pub past : Past at r
  past = subst (Past at) (sym wrote.0) (write-past b at (make o))

  pub handed : {a : MtAnswer} → a ≡ written_of at r → (a ≡ written_of at (write_at (make p) b at).answer) × (after ≡ (write_at (make p) b at).after)
  handed e = (
    e ∙ ap (written_of at) (wrote.0 ∙ ap (λ (z : Order). (write_at (make z) b at).answer) named),
    wrote.1 ∙ ap (λ (z : Order). (write_at (make z) b at).after) named,
  )
