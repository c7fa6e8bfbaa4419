-- Arrays of y n q u x t h d need no look at their elements: whatever whole number of bytes they hold is accepted.
-- This is what code relies on that tests the length alone.
use Prim.Native.Nat.{ℕ, zero, suc, ◌+◌, ◌*◌, ◌%◌, ◌≤◌}
use native.Mathlib.Omega.{arith}
use native.Mathlib.Nat.{add-mod_right}
use mathlib.Core.List.{List, [], ◌∷◌}
use mathlib.Core.Path.{◌≡◌, ap, ◌∙◌}
use lib.ListN.{length, take, drop}
use lib.Dec.{T}
use Rattle.meaning.specs.declared.Order.{Order}
use Rattle.meaning.specs.declared.Fault.TheVariants.{InvalidBoolean}
use Rattle.meaning.specs.Reader.{got, R, ret, ◌>>=◌, ◌>>◌, check, bytes, many}
use Rattle.meaning.specs.Types.{Fix, fix, size}
use Rattle.meaning.specs.Number.{load, gap}
use Rattle.meaning.specs.Value.{pad}
use Rattle.meaning.specs.ReadValue.{valid, padding, read_fix, bare_r, base_r}
use Rattle.meaning.proofs.Local.{many-end, many-round, bind-got, bytes-yes}
use Rattle.meaning.proofs.Meets.{at_none, here-bind, check_bind, padding-complete}
use Rattle.meaning.proofs.ValueMeets.{gap-none, ne-size}

-- no padding where there is no gap
pub padding-none : (a : ℕ) (b : List ℕ) (off : ℕ) → gap a off ≡ 0 → off ≤ length b → padding a b off ≡ got tt off
unfolding pad
padding-none a b off g l = padding-complete a b off off (rw g (at_none b off)) l

module _ (o : Order) (c : Fix) (every : (x : ℕ) → T (valid c x)) where
  number : (b : List ℕ) (off : ℕ) → off + size c ≤ length b → read_fix o c b off ≡ got (load o (take (size c) (drop off b))) (off + size c)
  unfolding read_fix ret
  number b off h =
      let body : ℕ → List ℕ → R ℕ = λ p xs. check (valid c (load o xs)) InvalidBoolean p >> ret (load o xs) in
      let x : List ℕ = take (size c) (drop off b) in
      here-bind (λ p. bytes (size c) p >>= body p) b off
      ∙ bind-got (bytes (size c) off) (body off) b off x (off + size c) (bytes-yes (size c) off b off h)
      ∙ check_bind (valid c (load o x)) InvalidBoolean off (λ z. ret (load o x)) b (off + size c) (every (load o x))

  one_plain : (b : List ℕ) (off : ℕ) → off % size c ≡ 0 → off + size c ≤ length b
      → base_r o (fix c) b off ≡ got (load o (take (size c) (drop off b))) (off + size c)
  unfolding base_r bare_r
  one_plain b off z h =
      bind-got (padding (size c)) (λ w. read_fix o c) b off tt off (padding-none (size c) b off (gap-none c off z) (omega arith)) ∙ number b off h

  pub plain : (k n : ℕ) (b : List ℕ) (off : ℕ) → off % size c ≡ 0 → length b ≡ off + k * size c → k ≤ n
      → (vs : List ℕ) × (many n (base_r o (fix c)) b off ≡ got vs (length b))
  unfolding ret
  plain zero n b off z l f = ([], many-end n (base_r o (fix c)) b off (omega arith) ∙ ap (λ (e : ℕ). got [] e) (omega arith))
  plain (suc k) zero b off z l f = absurd (omega arith)
  plain (suc k) (suc n) b off z l f =
      let v : ℕ = load o (take (size c) (drop off b)) in
      let p : off + size c ≤ length b = omega arith in
      let i = plain k n b (off + size c) (add-mod_right off (size c) ∙ z) (omega arith) (omega arith) in (
        v ∷ i.0,
        many-round n (base_r o (fix c)) b off (omega (arith, ne-size c))
            ∙ bind-got (base_r o (fix c)) (λ x. many n (base_r o (fix c)) >>= λ ws. ret (x ∷ ws)) b off v (off + size c) (one_plain b off z p)
            ∙ bind-got (many n (base_r o (fix c))) (λ ws. ret (v ∷ ws)) b (off + size c) i.0 (length b) i.1,
      )
