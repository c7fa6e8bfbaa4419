-- Tests over all known codes, and which entry is kept of a code.
use Prim.Native.Nat.{ℕ, zero, suc, ◌+◌, ◌≤◌, ◌<◌}
use native.Mathlib.Omega.{arith}
use mathlib.Core.Bool.{Bool, true, false, ◌&&◌}
use mathlib.Core.Path.{◌≡◌, refl, sym, subst, ◌∙◌}
use lib.Dec.{T}
use lib.ListN.{get_or}
use lib.Dec.{leb}
use mathlib.Core.List.{List}
use Rattle.header.specs.declared.header_fields.Seen.{Seen}
use Rattle.meaning.specs.declared.Entry.{Entry}
use Rattle.meaning.specs.declared.MessageType.{MessageType}
use Rattle.meaning.specs.declared.MessageType.TheVariants.{Signal}
use Rattle.meaning.specs.Message.{every, known_codes}
use Rattle.meaning.proofs.Rules.{every-all, every-same, each_from, one_from}
use Rattle.meaning.proofs.Local.{Cmp, is_le, is_gt, cmp}
use Rattle.header.specs.HeaderFields.{unseen, first_of, present}

pub later-kept : (n : ℕ) (old new : Entry) → (n ≡ 0 → ⊥) → old ≡ first_of n old new
later-kept zero old new h = absurd (h refl)
later-kept (suc n) old new h = refl

pub and-true : (a : Bool) → (a && true) ≡ a
and-true true = refl
and-true false = refl

-- a test of every known code: they are the nine from 1 on
module _ (p : ℕ → Bool) where
  pub all_known : ((c : ℕ) → 1 ≤ c → c < 10 → p c ≡ true) → every p known_codes ≡ true
  all_known h = every-same p (λ c. true) known_codes (each_from (λ c. p c ≡ true) 9 1 (λ c a b. h c a (omega arith)))

  pub one_known : (c : ℕ) → 1 ≤ c → c < 10 → p c ≡ false → every p known_codes ≡ false
  one_known c a b h = go (every p known_codes) refl
    where
      go : (x : Bool) → every p known_codes ≡ x → every p known_codes ≡ false
      go false e = e
      go true e =
          let all = every-all p (λ c. T (p c)) (λ c t. t) (λ c t. t) known_codes (subst T (sym e) tt) in
          absurd (subst T h (one_from (λ c. T (p c)) 9 1 all c a (omega arith)))

  pub one_more : (n : ℕ) → ((c : ℕ) → 1 ≤ c → c < n → p c ≡ true) → p n ≡ true → (c : ℕ) → 1 ≤ c → c < n + 1 → p c ≡ true
  one_more n h e c a b = go (cmp n c)
    where
      go : Cmp n c → p c ≡ true
      go (is_le t l) = let z : n ≡ c = omega arith in subst (λ (k : ℕ). p k ≡ true) z e
      go (is_gt t l) = h c a l

-- what is tested of a signal, in turn
module _ (ss : List Seen) where
  abbrev stands : ℕ → Bool
  stands c = leb 1 (get_or ss c unseen).count

  pub signal-needs : (k : MessageType) → k ≡ Signal → stands 1 ≡ true → stands 2 ≡ true → stands 3 ≡ present k ss
  unfolding present
  signal-needs k e a b = simp (e, a, b, and-true)

  pub signal-lacks : (k : MessageType) → k ≡ Signal → stands 1 ≡ true → (x : Bool) → x ≡ stands 2 → x ≡ false → x ≡ present k ss
  unfolding present
  signal-lacks k e a x h f = let z : stands 2 ≡ false = sym h ∙ f in simp (e, a, z, f)
