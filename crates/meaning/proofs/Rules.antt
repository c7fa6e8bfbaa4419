-- The lists that the definition of a message and the stated order share, held to document 01's own words: a slip in one of them would go
-- through both alike, so here each is stated a second time as a rule, and the two are proved to say the same.
use Prim.Native.Nat.{ℕ, zero, suc, ◌+◌, ◌≤◌, ◌<◌}
use native.Mathlib.Omega.{arith}
use mathlib.Core.Bool.{Bool, ◌&&◌}
use mathlib.Core.List.{List, [], ◌∷◌, map}
use mathlib.Core.Path.{◌≡◌, refl, ap₂, subst}
use mathlib.Core.Logic.{◌↔◌}
use lib.Dec.{leb, T, leb→le, le→leb}
use Rattle.meaning.specs.declared.Entry.{Entry}
use Rattle.meaning.specs.Header.{fields_by}
use Rattle.meaning.specs.declared.MessageType.{MessageType}
use Rattle.meaning.specs.declared.MessageType.TheVariants.{Call, Reply, Error, Signal}
use Rattle.meaning.proofs.Local.{Cmp, is_le, is_gt, cmp}
use Rattle.meaning.proofs.Booleans.{and_left, and_right, and_both}
use Rattle.meaning.specs.Signature.{code}
use Rattle.meaning.specs.Message.{Wants, nothing, exactly, anything, wants, Field, count, every, needed, known_codes, complete}

-- a code that asks for nothing, for the type with this letter, or for anything
abbrev letter : Wants → ℕ
letter nothing = 0
letter (exactly c) = code c
letter anything = 1

-- "code 0 is 20; codes 1 to 9 ask for o s s s u s s g u; codes from 10 are ignored": codes 0 to 11, and the last
pub known-letters : map (λ c. letter (wants c)) (0 ∷ 1 ∷ 2 ∷ 3 ∷ 4 ∷ 5 ∷ 6 ∷ 7 ∷ 8 ∷ 9 ∷ 10 ∷ 11 ∷ 255 ∷ [])
    ≡ 0 ∷ 111 ∷ 115 ∷ 115 ∷ 115 ∷ 117 ∷ 115 ∷ 115 ∷ 103 ∷ 117 ∷ 1 ∷ 1 ∷ 1 ∷ []
unfolding wants
known-letters = refl

-- "Call needs 1, 3; reply 5; error 4, 5; signal 1, 2, 3"
abbrev pub Required : MessageType → List Field → Type 0
Required Call fs = (1 ≤ count 1 fs) × (1 ≤ count 3 fs)
Required Reply fs = 1 ≤ count 5 fs
Required Error fs = (1 ≤ count 4 fs) × (1 ≤ count 5 fs)
Required Signal fs = (1 ≤ count 1 fs) × (1 ≤ count 2 fs) × (1 ≤ count 3 fs)

-- "or a known one stands twice"
abbrev pub Once : List Field → Type 0
Once fs = (c : ℕ) → 1 ≤ c → c ≤ 9 → count c fs ≤ 1

-- a test of every code in a list is a rule for each
abbrev pub All : (ℕ → Type 0) → List ℕ → Type 0
All P [] = Unit {0}
All P (c ∷ cs) = P c × All P cs

module _ (p : ℕ → Bool) (P : ℕ → Type 0) (yes : (c : ℕ) → T (p c) → P c) (back : (c : ℕ) → P c → T (p c)) where
  pub every-all : (cs : List ℕ) → T (every p cs) → All P cs
  every-all [] h = tt
  every-all (c ∷ cs) h = (yes c (and_left (p c) (every p cs) h), every-all cs (and_right (p c) (every p cs) h))

  all-every : (cs : List ℕ) → All P cs → T (every p cs)
  all-every [] h = tt
  all-every (c ∷ cs) h = and_both (p c) (every p cs) (back c h.0) (all-every cs h.1)

-- tests that agree on a list, and entries that agree on the nine codes
pub every-same : (p q : ℕ → Bool) (cs : List ℕ) → All (λ c. p c ≡ q c) cs → every p cs ≡ every q cs
every-same p q [] h = refl
every-same p q (c ∷ cs) h = ap₂ (λ (x y : Bool). x && y) h.0 (every-same p q cs h.1)

pub fields-same : (e f : ℕ → Entry) → All (λ c. e c ≡ f c) known_codes → fields_by e ≡ fields_by f
fields-same e f h =
    rw (h.0, h.1.0, h.1.1.0, h.1.1.1.0, h.1.1.1.1.0, h.1.1.1.1.1.0, h.1.1.1.1.1.1.0, h.1.1.1.1.1.1.1.0, h.1.1.1.1.1.1.1.1.0)

-- a rule for each of the n numbers from a on is a rule for every number among them
abbrev pub from : ℕ → ℕ → List ℕ
from a zero = []
from a (suc n) = a ∷ from (suc a) n

module _ (P : ℕ → Type 0) where
  pub each_from : (n a : ℕ) → ((c : ℕ) → a ≤ c → c < a + n → P c) → All P (from a n)
  each_from zero a r = tt
  each_from (suc n) a r = (r a (omega arith) (omega arith), each_from n (suc a) (λ c g h. r c (omega arith) (omega arith)))

  pub one_from : (n a : ℕ) → All P (from a n) → (c : ℕ) → a ≤ c → c < a + n → P c
  one_from zero a h c g l = absurd (omega arith)
  one_from (suc n) a h c g l = go (cmp c a) (λ k. one_from n (suc a) h.1 c (omega arith) (omega arith))
    where
      go : Cmp c a → (a < c → P c) → P c
      go (is_le t k) rest = let z : a ≡ c = omega arith in subst P z h.0
      go (is_gt t k) rest = rest k

module _ (fs : List Field) where
  abbrev present : ℕ → Bool
  present c = leb 1 (count c fs)

  abbrev single : ℕ → Bool
  single c = leb (count c fs) 1

  there : (cs : List ℕ) → T (every present cs) → All (λ c. 1 ≤ count c fs) cs
  there = every-all present (λ c. 1 ≤ count c fs) (λ c. leb→le 1 (count c fs)) (λ c. le→leb 1 (count c fs))

  back : (cs : List ℕ) → All (λ c. 1 ≤ count c fs) cs → T (every present cs)
  back = all-every present (λ c. 1 ≤ count c fs) (λ c. leb→le 1 (count c fs)) (λ c. le→leb 1 (count c fs))

  -- the fields that each type of message needs
  pub required : (k : MessageType) → T (every present (needed k)) ↔ Required k fs
  required Call = (λ h. (let a = there (needed Call) h in (a.0, a.1.0)), λ r. back (needed Call) (r.0, (r.1, tt)))
  required Reply = (λ h. (there (needed Reply) h).0, λ r. back (needed Reply) (r, tt))
  required Error = (λ h. (let a = there (needed Error) h in (a.0, a.1.0)), λ r. back (needed Error) (r.0, (r.1, tt)))
  required Signal = (
    λ h. (let a = there (needed Signal) h in (a.0, a.1.0, a.1.1.0)),
    λ r. back (needed Signal) (r.0, (r.1, (r.2, tt))),
  )

  -- each known field stands there once at most: the known codes are the nine from 1 on
  pub once : T (every single known_codes) ↔ Once fs
  once = (
    λ h c g l. one_from (λ c. count c fs ≤ 1) 9 1 (every-all single (λ c. count c fs ≤ 1) yes no known_codes h) c g (omega arith),
    λ r. all-every single (λ c. count c fs ≤ 1) yes no known_codes (each_from (λ c. count c fs ≤ 1) 9 1 (λ c g l. r c g (omega arith))),
  )
    where
      yes : (c : ℕ) → T (single c) → count c fs ≤ 1
      yes c = leb→le (count c fs) 1

      no : (c : ℕ) → count c fs ≤ 1 → T (single c)
      no c = le→leb (count c fs) 1

-- 21 is given exactly where a required field is absent, or a known one stands twice
pub complete-is : (k : MessageType) (fs : List Field) → T (complete k fs) ↔ (Required k fs × Once fs)
unfolding complete
complete-is k fs =
    let needs : Bool = every (present fs) (needed k) in
    let twice : Bool = every (single fs) known_codes in (
      λ h. ((required fs k).0 (and_left needs twice h), (once fs).0 (and_right needs twice h)),
      λ r. and_both needs twice ((required fs k).1 r.0) ((once fs).1 r.1),
    )
