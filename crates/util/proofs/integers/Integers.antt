-- `read_integer` by the ways through the code, at every width.
use Prim.Native.Nat.{ℕ, ◌-◌, ◌≤◌, ◌<◌}
use native.Mathlib.Omega.{arith}
use mathlib.Core.List.{List}
use mathlib.Core.Path.{◌≡◌, ap, sym, ◌∙◌}
use lib.ListN.{length}
use Rattle.meaning.specs.Faults.{refusal}
use Rattle.meaning.specs.Number.{load}
use Rattle.meaning.specs.Reader.{ret, ◌>>=◌, bytes}
use Rattle.meaning.specs.Reads.{read_integer, unsigned_r, integer_of}
use Rattle.meaning.specs.declared.Order.{Order}
use Rattle.std.specs.Prelude.{Ok, Err}
use Rattle.meaning.specs.declared.Refusal.{Refusal}
use Rattle.meaning.specs.declared.Fault.TheVariants.{BadOffset, NotEnoughBytes}
use Rattle.meaning.proofs.Local.{bytes-yes, bytes-no, bind-got, bind-fault, leb-true, leb-false}
use Rattle.meaning.proofs.Meets.{here-bind}
use Rattle.util.specs.Loaded.{Loaded}

module _ (o : Order) (w : ℕ) (b : List ℕ) (at : ℕ) where
  pub outside : length b < at → (x : Refusal) → x ≡ refusal BadOffset at → Err x ≡ read_integer o w b at
  unfolding read_integer
  outside h x e = rw (leb-false at (length b) h, read_integer, e)

  within : at ≤ length b → read_integer o w b at ≡ integer_of ((bytes w at >>= λ xs. ret (load o xs)) b at)
  unfolding read_integer unsigned_r
  within h = rw (leb-true at (length b) h, read_integer) (ap integer_of (here-bind (λ p. bytes w p >>= λ xs. ret (load o xs)) b at))

  pub too_few : at ≤ length b → length b - at < w → (x : Refusal) → x ≡ refusal NotEnoughBytes at → Err x ≡ read_integer o w b at
  too_few h k x e =
      ap Err e ∙ sym (within h ∙ ap integer_of (bind-fault (bytes w at) (λ xs. ret (load o xs)) b at _ (bytes-no w at b at (omega arith))))

  pub is_read : at ≤ length b → w ≤ length b - at → (v : ℕ) → Loaded o w b at v → Ok v ≡ read_integer o w b at
  unfolding ret
  is_read h k v l =
      ap Ok l.is ∙ sym (within h ∙ ap integer_of (bind-got (bytes w at) (λ xs. ret (load o xs)) b at _ _ (bytes-yes w at b at (omega arith))))
