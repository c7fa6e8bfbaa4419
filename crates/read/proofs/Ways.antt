-- `read_fixed` by the ways through the code.
use Prim.Native.Nat.{ℕ, ◌+◌, ◌-◌, ◌≤◌, ◌<◌}
use native.Mathlib.Omega.{arith}
use mathlib.Core.Bool.{true, false}
use mathlib.Core.List.{List}
use mathlib.Core.Path.{◌≡◌, ap, sym, ◌∙◌}
use lib.ListN.{length, take}
use Rattle.meaning.specs.Types.{Fix, fix, size}
use Rattle.meaning.specs.Number.{load}
use Rattle.meaning.specs.Faults.{refusal}
use Rattle.meaning.specs.Reader.{Res, got, fault, stop, R, ret, ◌>>=◌, ◌>>◌, check, bytes, reached_of}
use Rattle.meaning.specs.ReadValue.{valid, padding, read_fix, bare_r, base_r}
use Rattle.meaning.specs.FixedValue.{the_fix, not_fix, fixed_value, fixed_from, read_fixed}
use Rattle.meaning.specs.declared.Order.{Order}
use Rattle.meaning.specs.declared.Place.{Place}
use Rattle.meaning.specs.declared.Refusal.{Refusal}
use Rattle.meaning.specs.declared.Fault.TheVariants.{BadOffset, NotEnoughBytes, InvalidBoolean, BadArgument}
use Rattle.std.specs.Prelude.{Result, Ok, Err}
use Rattle.meaning.specs.declared.FixedValue.{FixedValue}
use Rattle.meaning.proofs.Local.{bytes-yes, bytes-no, bind-got, bind-fault, leb-true, leb-false}
use Rattle.meaning.proofs.Meets.{here-bind}
use Rattle.util.specs.Loaded.{Loaded}
use Rattle.read.proofs.FixedTypes.{named}

-- a fixed value behind its padding, at the width that the table gives
module _ (o : Order) (c : Fix) (b : List ℕ) (at w : ℕ) (l : at ≤ length b) (e : w ≡ size c) where
  tested : ℕ → List ℕ → R ℕ
  tested p xs = check (valid c (load o xs)) InvalidBoolean p >> ret (load o xs)

  abbrev goal : Result FixedValue Refusal
  goal = fixed_from c (read_fix o c b at)

  pub too_few : length b - at < w → (x : Refusal) → x ≡ refusal NotEnoughBytes at → Err x ≡ goal
  unfolding read_fix tested
  too_few h x q =
      ap Err q
      ∙ sym (ap (fixed_from c) (here-bind (λ p. bytes (size c) p >>= tested p) b at ∙ bind-fault (bytes (size c) at) (tested at) b at _ (bytes-no (size c) at b at (omega arith))))

  enough : w ≤ length b - at → (n : ℕ) → Loaded o w b at n → read_fix o c b at ≡ (check (valid c n) InvalidBoolean at >> ret n) b (at + size c)
  unfolding read_fix tested
  enough h n q =
      let k : Loaded o (size c) b at n = rw e at q in
      here-bind (λ p. bytes (size c) p >>= tested p) b at
      ∙ bind-got (bytes (size c) at) (tested at) b at _ _ (bytes-yes (size c) at b at (omega arith))
      ∙ ap (λ (m : ℕ). (check (valid c m) InvalidBoolean at >> ret m) b (at + size c)) (sym k.is)

  pub is-valid : w ≤ length b - at → (n : ℕ) → Loaded o w b at n → true ≡ valid c n → (v : FixedValue) → v ≡ fixed_value c n → Ok v ≡ goal
  unfolding check ◌>>=◌ ret
  is-valid h n q t v z =
      let k : (check (valid c n) InvalidBoolean at >> ret n) b (at + size c) ≡ got n (at + size c) = rw (← t) in
      ap Ok z ∙ sym (ap (fixed_from c) (enough h n q ∙ k))

  pub is-invalid : w ≤ length b - at → (n : ℕ) → Loaded o w b at n → false ≡ valid c n → (x : Refusal) → x ≡ refusal InvalidBoolean at → Err x ≡ goal
  unfolding check ◌>>=◌ ret
  is-invalid h n q t x z =
      let k : (check (valid c n) InvalidBoolean at >> ret n) b (at + size c) ≡ stop InvalidBoolean at = rw (← t) in
      ap Err z ∙ sym (ap (fixed_from c) (enough h n q ∙ k))

-- 26, then 1, then the padding's own faults, then what stands behind it
module _ (o : Order) (s b : List ℕ) (off : ℕ) where
  pub bad-argument : named s ≡ not_fix → (x : Refusal) → x ≡ refusal BadArgument 0 → Err x ≡ read_fixed o s b off
  unfolding read_fixed
  bad-argument h x e = rw (h, read_fixed, e)

  module _ (c : Fix) (w : ℕ) (h : named s ≡ the_fix c) (wide : w ≡ size c) where
    pub outside : length b < off → (x : Refusal) → x ≡ refusal BadOffset off → Err x ≡ read_fixed o s b off
    unfolding read_fixed
    outside l x e = rw (h, leb-false off (length b) l, read_fixed, e)

    pub within : off ≤ length b → read_fixed o s b off ≡ fixed_from c (base_r o (fix c) b off)
    unfolding read_fixed
    within l = rw (h, leb-true off (length b) l, read_fixed)

    stopped : (q : Res (Unit {0})) (x : Refusal) → Err x ≡ reached_of q → q ≡ fault x
    stopped (got v e) x z = absurd (let w : ◌≡◌ {A = ℕ} 0 1 = cc in omega arith)
    stopped (fault y) x z = cc

    stood : (q : Res (Unit {0})) (p : Place) → Ok p ≡ reached_of q → q ≡ got tt p.0
    stood (got v e) p z = let w : e ≡ p.0 = cc in ap (λ (m : ℕ). got tt m) w
    stood (fault y) p z = absurd (let w : ◌≡◌ {A = ℕ} 0 1 = cc in omega arith)

    pub bad-padding : off ≤ length b → (x : Refusal) → Err x ≡ reached_of (padding w b off) → Err x ≡ read_fixed o s b off
    unfolding base_r
    bad-padding l x e =
        sym (within l ∙ ap (fixed_from c) (bind-fault (padding (size c)) (λ v. bare_r o (fix c)) b off x (stopped (padding (size c) b off) x (rw wide at e))))

    pub behind : off ≤ length b → (p : Place) → Ok p ≡ reached_of (padding w b off) → (r : Result FixedValue Refusal) → r ≡ fixed_from c (read_fix o c b p.0) → r ≡ read_fixed o s b off
    unfolding base_r bare_r
    behind l p e r q =
        q ∙ sym (within l ∙ ap (fixed_from c) (bind-got (padding (size c)) (λ v. bare_r o (fix c)) b off tt p.0 (stood (padding (size c) b off) p (rw wide at e))))
