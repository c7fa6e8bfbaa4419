-- `write_at` by the ways through the code.
use Prim.Native.Nat.{ℕ, ◌+◌, ◌-◌, ◌≤◌, ◌<◌}
use native.Mathlib.Omega.{arith}
use mathlib.Core.List.{List}
use mathlib.Core.Path.{◌≡◌, refl, ◌∙◌}
use lib.ListN.{length}
use lib.Seq.{sets, sets-eq}
use Rattle.meaning.specs.Faults.{refusal}
use Rattle.meaning.specs.Writers.{Wrote, put_at, Content, bytes, faulty, write_at}
use Rattle.meaning.specs.declared.Fault.{Fault}
use Rattle.meaning.specs.declared.Fault.TheVariants.{BadOffset, NoRoom}
use Rattle.meaning.specs.declared.Refusal.{Refusal}
use Rattle.std.specs.Prelude.{Result, Ok, Err}
use Rattle.meaning.specs.declared.Place.{Place}
use Rattle.meaning.proofs.Local.{leb-true, leb-false}

-- an answer and a buffer are what a write says
abbrev pub Met : Wrote → Result Place Refusal → List ℕ → Type 0
Met w r after = (r ≡ w.answer) × (after ≡ w.after)

module _ (b : List ℕ) (at : ℕ) (l : at ≤ length b) (xs : List ℕ) (n : ℕ) (e : n ≡ length xs) where
  pub no_room : length b - at < n → (x : Refusal) → x ≡ refusal NoRoom at → Met (put_at b at xs) (Err x) b
  unfolding put_at
  no_room h x q = rw (leb-false (at + length xs) (length b) (omega arith), put_at, q) (refl, refl)

  pub stored : n ≤ length b - at → (m : ℕ) → m ≡ at + n → (after : List ℕ) → after ≡ sets b at xs → Met (put_at b at xs) (Ok (record { 0 = m })) after
  unfolding put_at
  stored h m z after q =
      let f : m ≡ at + length xs = omega arith in
      rw (leb-true (at + length xs) (length b) (omega arith), put_at, f) (refl, q ∙ sets-eq xs b at (omega arith))

module _ (c : Content) (b : List ℕ) (at : ℕ) where
  pub outside : length b < at → (x : Refusal) → x ≡ refusal BadOffset at → Met (write_at c b at) (Err x) b
  unfolding write_at
  outside h x q = rw (leb-false at (length b) h, write_at, q) (refl, refl)

  pub is-faulty : at ≤ length b → (f : Fault) → c ≡ faulty f → (x : Refusal) → x ≡ refusal f at → Met (write_at c b at) (Err x) b
  unfolding write_at
  is-faulty h f k x q = rw (leb-true at (length b) h, write_at, k, q) (refl, refl)

  pub is-bytes : at ≤ length b → (xs : List ℕ) → c ≡ bytes xs → (r : Result Place Refusal) (after : List ℕ) → Met (put_at b at xs) r after → Met (write_at c b at) r after
  unfolding write_at
  is-bytes h xs k r after m = rw (leb-true at (length b) h, write_at, k) m
