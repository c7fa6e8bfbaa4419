-- Demands 2 and 3 of the answer that the check of a value gives.
use Prim.Native.Nat.{ℕ, ◌+◌, ◌-◌, ◌≤◌, ◌<◌}
use native.Mathlib.Omega.{arith}
use mathlib.Core.Bool.{Bool, true, false, ◌||◌}
use mathlib.Core.List.{List, ◌++◌}
use mathlib.Core.Path.{◌≡◌, refl, ap, sym, subst, ◌∙◌}
use mathlib.Core.Logic.{◌↔◌, ◌≢◌, ◌⊎◌, inl, inr}
use lib.ListN.{length, take}
use lib.Dec.{T, eqb, eqb→eq}
use lib.Seq.{length-take-le}
use Rattle.meaning.specs.Reader.{Res, got, fault, R}
use Rattle.meaning.proofs.Local.{short, leb-true, same_first, cut_short, le-append}
use Rattle.meaning.specs.Types.{Ty, Value}
use Rattle.meaning.specs.Signature.{parse}
use Rattle.std.specs.Prelude.{Result, Ok, Err}
use Rattle.meaning.specs.declared.Length.{Length}
use Rattle.meaning.proofs.NumberLaws.{Bytes}
use Rattle.meaning.specs.Value.{Encodes}
use Rattle.meaning.specs.ReadValue.{read_top, taken, checked_of, check_at, the, only_one, check_value}
use Rattle.meaning.proofs.ValueLocal.{read_top-local}
use Rattle.meaning.proofs.ValueMeets.{accepted-encodes, encodes-accepted}
use Rattle.meaning.specs.declared.Refusal.{Refusal}
use Rattle.meaning.specs.Faults.{number_of}
use Rattle.meaning.specs.declared.Order.{Order}

-- a signature of one type, an offset inside the buffer: the answer is the walk's
pub check-at : {A : Type 0} (r : R A) (b : List ℕ) (off : ℕ) → off ≤ length b → check_at r b off ≡ checked_of off (r b off)
unfolding check_at
check-at r b off h = rw (leb-true off (length b) h, check_at)

pub check_value-is : (o : Order) (s : List ℕ) (t : Ty) (b : List ℕ) (off : ℕ) → only_one (parse s) ≡ the t → off ≤ length b → check_value o s b off ≡ checked_of off (read_top o t b off)
unfolding check_value
check_value-is o s t b off e h = rw (e, check_value) (check-at (read_top o t) b off h)

abbrev length_of : Result Length Refusal → ℕ
length_of (Ok l) = l.0
length_of (Err x) = 0

pub same_taken : (m n : ℕ) → taken m ≡ taken n → m ≡ n
same_taken m n h = ap length_of h

-- what an answer "taken" comes from
pub taken-inv : {A : Type 0} (off n : ℕ) (x : Res A) → checked_of off x ≡ taken n → (v : A) × (e : ℕ) × (x ≡ got v e) × (e - off ≡ n)
taken-inv off n (got v e) h = (v, e, refl, same_taken (e - off) n h)
taken-inv off n (fault x) h = absurd (let z : ◌≡◌ {A = ℕ} 0 1 = cc in omega arith)

pub refused-inv : {A : Type 0} (off : ℕ) (y : Refusal) (x : Res A) → checked_of off x ≡ Err y → x ≡ fault y
refused-inv off y (got v e) h = absurd (let z : ◌≡◌ {A = ℕ} 0 1 = cc in omega arith)
refused-inv {A} off y (fault z) h = let w : z ≡ y = cc in ap (λ (u : Refusal). fault u) w

pub is-final : (k : ℕ) → k ≢ 2 → k ≢ 3 → (eqb k 2 || eqb k 3) ≡ false
is-final k h2 h3 = go (eqb k 2) (eqb k 3) refl refl
  where
    go : (a c : Bool) → eqb k 2 ≡ a → eqb k 3 ≡ c → (a || c) ≡ false
    go true c e f = absurd (h2 (eqb→eq k 2 (subst T (sym e) tt)))
    go false true e f = absurd (h3 (eqb→eq k 3 (subst T (sym f) tt)))
    go false false e f = refl

pub short-inv : {A : Type 0} (x : Res A) → short x ≡ true → (y : Refusal) × (x ≡ fault y) × ((number_of y.fault ≡ 2) ⊎ (number_of y.fault ≡ 3))
short-inv (got v e) h = absurd (subst T (sym h) tt)
short-inv (fault y) h = (y, refl, go (eqb (number_of y.fault) 2) (eqb (number_of y.fault) 3) refl refl h)
  where
    go : (a c : Bool) → eqb (number_of y.fault) 2 ≡ a → eqb (number_of y.fault) 3 ≡ c → (a || c) ≡ true → (number_of y.fault ≡ 2) ⊎ (number_of y.fault ≡ 3)
    go true c e f z = inl (eqb→eq (number_of y.fault) 2 (subst T (sym e) tt))
    go false true e f z = inr (eqb→eq (number_of y.fault) 3 (subst T (sym f) tt))
    go false false e f z = absurd (subst T (sym z) tt)

module _ (o : Order) (s : List ℕ) (t : Ty) (one_type : only_one (parse s) ≡ the t) where
  accepted : (b : List ℕ) (off n : ℕ) → off ≤ length b → check_value o s b off ≡ taken n → (v : Value t) × (read_top o t b off ≡ got v (off + n))
  accepted b off n h q =
      let i = taken-inv off n (read_top o t b off) (sym (check_value-is o s t b off one_type h) ∙ q) in
      let g = (read_top-local o t).bound b off i.0 i.1 h i.2 in
      let z : i.1 ≡ off + n = omega (arith, i.3, g.0) in
      (i.0, i.2 ∙ ap (λ (e : ℕ). got i.0 e) z)

  accept : (b : List ℕ) (off n : ℕ) (v : Value t) → off ≤ length b → read_top o t b off ≡ got v (off + n) → check_value o s b off ≡ taken n
  accept b off n v h q =
      let z : off + n - off ≡ n = omega arith in
      check_value-is o s t b off one_type h ∙ ap (checked_of off) q ∙ ap taken z

  -- Demand 2: accepted with n exactly when the n bytes encode a value
  pub exactly : (b : List ℕ) → Bytes b → (off n : ℕ) → off ≤ length b → (check_value o s b off ≡ taken n) ↔ Encodes o t b off n
  exactly b y off n h = (
    (λ q. (let i = accepted b off n h q in accepted-encodes o t b y off n h i.0 i.1)),
    (λ c. (let i = encodes-accepted o t b off n c in accept b off n i.0 h i.1)),
  )

  -- Demand 3
  pub same_bytes : (b d : List ℕ) (off n : ℕ) → off ≤ length b → check_value o s b off ≡ taken n → take (off + n) d ≡ take (off + n) b → off ≤ length d → check_value o s d off ≡ taken n
  same_bytes b d off n h q e l =
      let i = accepted b off n h q in
      accept d off n i.0 l (same_first (read_top o t) (read_top-local o t) b d off i.0 (off + n) h i.1 e)

  pub grows : (b c : List ℕ) (off : ℕ) (x : Refusal) → off ≤ length b → check_value o s b off ≡ Err x → number_of x.fault ≢ 2 → number_of x.fault ≢ 3 → check_value o s (b ++ c) off ≡ Err x
  grows b c off x h q h2 h3 =
      let i = refused-inv off x (read_top o t b off) (sym (check_value-is o s t b off one_type h) ∙ q) in
      let u = (read_top-local o t).up b c off h (ap short i ∙ is-final (number_of x.fault) h2 h3) in
      check_value-is o s t (b ++ c) off one_type (le-append b c h) ∙ ap (checked_of off) (u ∙ i)

  pub cuts : (b : List ℕ) (off n m : ℕ) → off ≤ length b → check_value o s b off ≡ taken n → off ≤ m → m < off + n
      → (x : Refusal) × (check_value o s (take m b) off ≡ Err x) × ((number_of x.fault ≡ 2) ⊎ (number_of x.fault ≡ 3))
  cuts b off n m h q lo hi =
      let i = accepted b off n h q in
      let g = (read_top-local o t).bound b off i.0 (off + n) h i.1 in
      let c = cut_short (read_top o t) (read_top-local o t) b off i.0 (off + n) m h i.1 lo hi in
      let w = short-inv (read_top o t (take m b) off) c in
      let l : length (take m b) ≡ m = length-take-le m b (omega arith) in
      (w.0, check_value-is o s t (take m b) off one_type (rw l lo) ∙ ap (checked_of off) w.1, w.2)
