-- The table's rule, tested once over its 256 entries: each is the class of its place, and what a class says holds of every byte that has it.
use Prim.Native.Nat.{ℕ, ◌<◌}
use mathlib.Core.Bool.{Bool, true, false, ◌&&◌}
use mathlib.Core.List.{List, [], ◌∷◌}
use mathlib.Core.Logic.{◌⊎◌, inl, inr}
use mathlib.Core.Path.{◌≡◌, refl, ap, sym, subst, ◌∙◌}
use lib.Dec.{T, eqb, eqb→eq}
use lib.ListN.{get_or}
use denote.Enum.Bare.{sameb, tag_one}
use Rattle.meaning.specs.Text.{Lead, follow, no_lead, lead, name_byte}
use Rattle.text.specs.Class.{class_of}
use Rattle.text.specs.declared.Class.{Class}
use Rattle.text.specs.declared.Class.TheVariants.{Zero, Plain, Slash, Name, Never, Two, LowThree, Three, SurThree, LowFour, Four, TopFour}
use Rattle.text.specs.contracts.Class.{the_type}
use Rattle.text.proofs.Table.{at}

-- what a first byte of a class asks for
abbrev pub lead_of : Class → Lead
lead_of Zero = follow 0 0 0
lead_of Plain = follow 0 0 0
lead_of Slash = follow 0 0 0
lead_of Name = follow 0 0 0
lead_of Never = no_lead
lead_of Two = follow 1 0x80 0xbf
lead_of LowThree = follow 2 0xa0 0xbf
lead_of Three = follow 2 0x80 0xbf
lead_of SurThree = follow 2 0x80 0x9f
lead_of LowFour = follow 3 0x90 0xbf
lead_of Four = follow 3 0x80 0xbf
lead_of TopFour = follow 3 0x80 0x8f

pub leads_ascii : (k : Class) → (k ≡ Zero) ⊎ ((k ≡ Plain) ⊎ ((k ≡ Slash) ⊎ (k ≡ Name))) → lead_of k ≡ follow 0 0 0
leads_ascii k (inl e) = ap lead_of e
leads_ascii k (inr (inl e)) = ap lead_of e
leads_ascii k (inr (inr (inl e))) = ap lead_of e
leads_ascii k (inr (inr (inr e))) = ap lead_of e

-- whether two classes are the same, as `==` compares them
abbrev pub is : Class → Class → Bool
is j k = sameb the_type j k

-- what a byte of a class is
pub record Says (b : ℕ) (k : Class) : Type 0 where
  pub leads : lead b ≡ lead_of k
  pub named : name_byte b ≡ is k Name
  pub slash : eqb b 47 ≡ is k Slash
  pub zero : eqb b 0 ≡ is k Zero

same_lead : Lead → Lead → Bool
same_lead (follow n l h) (follow m k g) = eqb n m && (eqb l k && eqb h g)
same_lead (follow n l h) no_lead = false
same_lead no_lead (follow n l h) = false
same_lead no_lead no_lead = true

same : Bool → Bool → Bool
same true true = true
same true false = false
same false true = false
same false false = true

left : (a b : Bool) → T (a && b) → T a
left true b h = tt
left false b h = h

right : (a b : Bool) → T (a && b) → T b
right true b h = h
right false b h = absurd h

same-is : (a b : Bool) → T (same a b) → a ≡ b
unfolding same
same-is true true h = refl
same-is true false h = absurd h
same-is false true h = absurd h
same-is false false h = refl

lead_is : (a b : Lead) → T (same_lead a b) → a ≡ b
unfolding same_lead
lead_is (follow n l h) (follow m k g) t =
    let t2 : T (eqb l k && eqb h g) = right (eqb n m) (eqb l k && eqb h g) t in
    let e1 : n ≡ m = eqb→eq n m (left (eqb n m) (eqb l k && eqb h g) t) in
    let e2 : l ≡ k = eqb→eq l k (left (eqb l k) (eqb h g) t2) in
    let e3 : h ≡ g = eqb→eq h g (right (eqb l k) (eqb h g) t2) in
    rw (e1, e2, e3)
lead_is (follow n l h) no_lead t = absurd t
lead_is no_lead (follow n l h) t = absurd t
lead_is no_lead no_lead t = refl

unfoldable pub classes : List Class
classes = Zero ∷ Plain ∷ Plain ∷ Plain ∷ Plain ∷ Plain ∷ Plain ∷ Plain ∷ Plain ∷ Plain ∷ Plain ∷ Plain ∷ Plain ∷ Plain ∷ Plain ∷ Plain ∷
    Plain ∷ Plain ∷ Plain ∷ Plain ∷ Plain ∷ Plain ∷ Plain ∷ Plain ∷ Plain ∷ Plain ∷ Plain ∷ Plain ∷ Plain ∷ Plain ∷ Plain ∷ Plain ∷
    Plain ∷ Plain ∷ Plain ∷ Plain ∷ Plain ∷ Plain ∷ Plain ∷ Plain ∷ Plain ∷ Plain ∷ Plain ∷ Plain ∷ Plain ∷ Plain ∷ Plain ∷ Slash ∷
    Name ∷ Name ∷ Name ∷ Name ∷ Name ∷ Name ∷ Name ∷ Name ∷ Name ∷ Name ∷ Plain ∷ Plain ∷ Plain ∷ Plain ∷ Plain ∷ Plain ∷
    Plain ∷ Name ∷ Name ∷ Name ∷ Name ∷ Name ∷ Name ∷ Name ∷ Name ∷ Name ∷ Name ∷ Name ∷ Name ∷ Name ∷ Name ∷ Name ∷
    Name ∷ Name ∷ Name ∷ Name ∷ Name ∷ Name ∷ Name ∷ Name ∷ Name ∷ Name ∷ Name ∷ Plain ∷ Plain ∷ Plain ∷ Plain ∷ Name ∷
    Plain ∷ Name ∷ Name ∷ Name ∷ Name ∷ Name ∷ Name ∷ Name ∷ Name ∷ Name ∷ Name ∷ Name ∷ Name ∷ Name ∷ Name ∷ Name ∷
    Name ∷ Name ∷ Name ∷ Name ∷ Name ∷ Name ∷ Name ∷ Name ∷ Name ∷ Name ∷ Name ∷ Plain ∷ Plain ∷ Plain ∷ Plain ∷ Plain ∷
    Never ∷ Never ∷ Never ∷ Never ∷ Never ∷ Never ∷ Never ∷ Never ∷ Never ∷ Never ∷ Never ∷ Never ∷ Never ∷ Never ∷ Never ∷ Never ∷
    Never ∷ Never ∷ Never ∷ Never ∷ Never ∷ Never ∷ Never ∷ Never ∷ Never ∷ Never ∷ Never ∷ Never ∷ Never ∷ Never ∷ Never ∷ Never ∷
    Never ∷ Never ∷ Never ∷ Never ∷ Never ∷ Never ∷ Never ∷ Never ∷ Never ∷ Never ∷ Never ∷ Never ∷ Never ∷ Never ∷ Never ∷ Never ∷
    Never ∷ Never ∷ Never ∷ Never ∷ Never ∷ Never ∷ Never ∷ Never ∷ Never ∷ Never ∷ Never ∷ Never ∷ Never ∷ Never ∷ Never ∷ Never ∷
    Never ∷ Never ∷ Two ∷ Two ∷ Two ∷ Two ∷ Two ∷ Two ∷ Two ∷ Two ∷ Two ∷ Two ∷ Two ∷ Two ∷ Two ∷ Two ∷
    Two ∷ Two ∷ Two ∷ Two ∷ Two ∷ Two ∷ Two ∷ Two ∷ Two ∷ Two ∷ Two ∷ Two ∷ Two ∷ Two ∷ Two ∷ Two ∷
    LowThree ∷ Three ∷ Three ∷ Three ∷ Three ∷ Three ∷ Three ∷ Three ∷ Three ∷ Three ∷ Three ∷ Three ∷ Three ∷ SurThree ∷ Three ∷ Three ∷
    LowFour ∷ Four ∷ Four ∷ Four ∷ TopFour ∷ Never ∷ Never ∷ Never ∷ Never ∷ Never ∷ Never ∷ Never ∷ Never ∷ Never ∷ Never ∷ Never ∷
    []

holds : ℕ → Class → Bool
holds b k =
    is k (class_of b)
    && (same_lead (lead b) (lead_of k) && (same (name_byte b) (is k Name) && (same (eqb b 47) (is k Slash) && same (eqb b 0) (is k Zero))))

tested : (b : ℕ) → b < 256 → T (holds b (get_or classes b Zero))
unfolding classes holds class_of lead same_lead same
tested b h = at holds classes Zero tt b h

parts : (b : ℕ) (k : Class) → T (holds b k) → (k ≡ class_of b) × Says b k
unfolding holds
parts b k t =
    let t1 = right (is k (class_of b)) _ t in
    let t2 = right (same_lead (lead b) (lead_of k)) _ t1 in
    let t3 = right (same (name_byte b) (is k Name)) _ t2 in (
      tag_one the_type tt k (class_of b) (eqb→eq _ _ (left (is k (class_of b)) _ t)),
      record {
        leads = lead_is (lead b) (lead_of k) (left (same_lead (lead b) (lead_of k)) _ t1);
        named = same-is (name_byte b) (is k Name) (left (same (name_byte b) (is k Name)) _ t2);
        slash = same-is (eqb b 47) (is k Slash) (left (same (eqb b 47) (is k Slash)) _ t3);
        zero = same-is (eqb b 0) (is k Zero) (right (same (eqb b 47) (is k Slash)) _ t3);
      },
    )

pub rule : (b : ℕ) → b < 256 → get_or classes b Zero ≡ class_of b
rule b h = (parts b (get_or classes b Zero) (tested b h)).0

pub says : (b : ℕ) (k : Class) → b < 256 → k ≡ class_of b → Says b k
says b k h e = subst (λ (j : Class). Says b j) (rule b h ∙ sym e) (parts b (get_or classes b Zero) (tested b h)).1

pub said : (b : ℕ) → b < 256 → Says b (get_or classes b Zero)
said b h = (parts b (get_or classes b Zero) (tested b h)).1
