-- The check of a value by the ways through the code: what the count of the signature's types says, and the offset.
use Prim.Native.Nat.{ℕ, ◌-◌, ◌≤◌, ◌<◌}
use native.Mathlib.Omega.{arith}
use mathlib.Core.List.{List, [], ◌∷◌}
use mathlib.Core.Path.{◌≡◌, refl, ap, sym, subst, ◌∙◌}
use lib.ListN.{length, take}
use Rattle.meaning.specs.declared.Order.{Order}
use Rattle.meaning.specs.declared.Refusal.{Refusal}
use Rattle.meaning.specs.declared.Fault.TheVariants.{BadOffset, BadArgument}
use Rattle.std.specs.Prelude.{Result, Ok, Err}
use Rattle.std.specs.Result.{result_unwrap_or}
use Rattle.meaning.specs.Faults.{refusal}
use Rattle.meaning.specs.Types.{Ty}
use Rattle.meaning.specs.Signature.{parse, Parsed, types, refused}
use Rattle.meaning.specs.Places.{TypeAt, Typed}
use Rattle.meaning.specs.ReadValue.{read, read_var, read_top, taken, checked_of, check_at, the, not1, only_one, check_value, counted_of}
use Rattle.meaning.proofs.Local.{leb-false}
use Rattle.meaning.proofs.PlaceLaws.{whole-type}
use Rattle.meaning.proofs.ValueLocal.{read_top-local}
use Rattle.meaning.proofs.ValueDemands.{check_value-is}
use Rattle.util.proofs.Windows.{front-is}
use Rattle.validate_raw.specs.declared.walk.Spot.{Spot}
use Rattle.validate_raw.specs.Walk.{walked_of}
use Rattle.validate_raw.proofs.walk.WalkLaws.{past-inv, stopped-inv}

-- one type
pub record Single (s : List ℕ) : Type 0 where
  pub ty : Ty
  pub only : only_one (parse s) ≡ the ty
  pub stands : TypeAt ty s 0 (length s)

-- what the code takes for their number: none where they cannot be counted
abbrev pub number : Parsed → ℕ
number q = result_unwrap_or (counted_of q) 0

pub single : (s : List ℕ) → number (parse s) ≡ 1 → Single s
single s k = go (parse s) refl k
  where
    go : (q : Parsed) → parse s ≡ q → number q ≡ 1 → Single s
    go (types []) e z = absurd (omega arith)
    go (types (t ∷ [])) e z = record { ty = t; only = ap only_one e; stands = whole-type e }
    go (types (t ∷ u ∷ ts)) e z = absurd (omega arith)
    go (refused f) e z = absurd (omega arith)

pub one_type : {s : List ℕ} → Single s → Typed s 0
one_type {s} h = record { ty = h.ty; next = length s; stands = h.stands }

not-single : (q : Parsed) → (number q ≡ 1 → ⊥) → only_one q ≡ not1
not-single (types []) k = refl
not-single (types (t ∷ [])) k = absurd (k refl)
not-single (types (t ∷ u ∷ ts)) k = refl
not-single (refused f) k = refl

module _ (o : Order) (s b : List ℕ) (off : ℕ) (x : Refusal) where
  pub other-count : (number (parse s) ≡ 1 → ⊥) → x ≡ refusal BadArgument 0 → Err x ≡ check_value o s b off
  unfolding check_value
  other-count k e = rw (not-single (parse s) k, check_value, e)

  pub beyond : Single s → length b < off → x ≡ refusal BadOffset off → Err x ≡ check_value o s b off
  unfolding check_value check_at
  beyond i h e = rw (i.only, check_value, leb-false off (length b) h, check_at, e)

-- what the walk answers of a type at the front of the signature
abbrev pub Answers : Order → List ℕ → List ℕ → ℕ → Result Spot Refusal → Type 0
Answers o s b off q = (t : Ty) (e : ℕ) → TypeAt t s 0 e → q ≡ walked_of e (read o (read_var o 16) t b off)

-- a walk that was handed a front of the buffer which is no shorter walked over the buffer
pub front-walked : (o : Order) (s seen b : List ℕ) (off : ℕ) (q : Result Spot Refusal) → Answers o s seen off q
    → length b ≤ length seen → seen ≡ take (length seen) b → Answers o s b off q
front-walked o s seen b off q answers long front = subst (λ (x : List ℕ). Answers o s x off q) (front-is seen b long front) answers

module _ (o : Order) (s b : List ℕ) (off : ℕ) (i : Single s) (h : off ≤ length b) (q : Result Spot Refusal) (answers : Answers o s b off q) where
  answered : q ≡ walked_of (length s) (read_top o i.ty b off)
  unfolding read_top
  answered = answers i.ty (length s) i.stands

  pub value-past : (p : Spot) → q ≡ Ok p → (off ≤ p.buf.0) × (taken (p.buf.0 - off) ≡ check_value o s b off)
  value-past p k =
      let j = past-inv (length s) p (read_top o i.ty b off) (sym answered ∙ k) in
      (((read_top-local o i.ty).bound b off j.0 p.buf.0 h j.1).0, sym (check_value-is o s i.ty b off i.only h ∙ ap (checked_of off) j.1))

  pub value-stop : (x : Refusal) → q ≡ Err x → Err x ≡ check_value o s b off
  value-stop x k = sym (check_value-is o s i.ty b off i.only h ∙ ap (checked_of off) (stopped-inv (length s) x (read_top o i.ty b off) (sym answered ∙ k)))
