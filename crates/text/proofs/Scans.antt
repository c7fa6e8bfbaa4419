-- The scan of UTF-8, byte by byte as the code goes.
use Prim.Native.Nat.{ℕ, zero, suc, ◌+◌, ◌-◌, ◌≤◌, ◌<◌}
use native.Mathlib.Omega.{arith}
use native.Mathlib.Numerals.{add-one}
use mathlib.Core.Bool.{Bool, true, false, ◌&&◌, ◌||◌, not}
use mathlib.Core.List.{List, [], ◌∷◌}
use Rattle.std.specs.Prelude.{Option, Some, None, Result, Ok, Err}
use mathlib.Core.Logic.{◌⊎◌, inl, inr}
use mathlib.Core.Path.{◌≡◌, refl, ap, sym, subst, ◌∙◌}
use lib.Dec.{eqb, leb}
use lib.ListN.{length, drop, get_or, drop_of_length-le}
use lib.Seq.{drop-cons, drop-length}
use borrow.Author.Tests.{le-leb, lt-leb, lt-ltb, ne_eqb, leb-true}
use Rattle.meaning.specs.Text.{Lead, follow, no_lead, lead, scan, utf8, no_zero, between, pick}
use Rattle.text.specs.Class.{class_of}
use Rattle.text.specs.Verdict.{text_number, text_fault, plain_bytes, goes_on}
use Rattle.text.specs.declared.BadText.{BadText}
use Rattle.text.specs.declared.BadText.TheVariants.{NotUtf8, HasZero}
use Rattle.text.specs.declared.Class.{Class}
use Rattle.text.specs.declared.Due.{Due}
use Rattle.text.proofs.Classes.{lead_of, says}

-- a first byte
abbrev pub after_lead : Lead → List ℕ → Bool
after_lead (follow n l h) cs = scan cs n l h
after_lead no_lead cs = false

scan-lead : (b lo hi : ℕ) (cs : List ℕ) (l : Lead) → lead b ≡ l → scan (b ∷ cs) 0 lo hi ≡ after_lead l cs
unfolding scan
scan-lead b lo hi cs (follow n l h) e = rw (e, scan)
scan-lead b lo hi cs no_lead e = rw (e, scan)

pub by-class : (class : Class) (l : Lead) (r : Option Due) → lead_of class ≡ l → ((cs : List ℕ) → goes_on r cs ≡ after_lead l cs)
    → (b lo hi : ℕ) (cs : List ℕ) → b < 256 → class ≡ class_of b → goes_on r cs ≡ scan (b ∷ cs) 0 lo hi
by-class class l r e f b lo hi cs h k = f cs ∙ sym (scan-lead b lo hi cs l ((says b class h k).leads ∙ e))

-- a byte that is due
pub below : (b n lo hi : ℕ) (cs : List ℕ) → (n ≡ 0 → ⊥) → b < lo → false ≡ scan (b ∷ cs) n lo hi
unfolding scan
below b zero lo hi cs z h = absurd (z refl)
below b (suc n) lo hi cs z h = rw (lt-leb lo b h, scan)

pub above : (b n lo hi : ℕ) (cs : List ℕ) → (n ≡ 0 → ⊥) → lo ≤ b → hi < b → false ≡ scan (b ∷ cs) n lo hi
unfolding scan
above b zero lo hi cs z g h = absurd (z refl)
above b (suc n) lo hi cs z g h = rw (le-leb lo b g, lt-leb b hi h, scan)

pub inside : (b n lo hi : ℕ) (cs : List ℕ) → (n ≡ 0 → ⊥) → lo ≤ b → b ≤ hi → scan cs (n - 1) 0x80 0xbf ≡ scan (b ∷ cs) n lo hi
unfolding scan
inside b zero lo hi cs z g h = absurd (z refl)
inside b (suc n) lo hi cs z g h = let e : suc n - 1 ≡ n = omega arith in rw (e, le-leb lo b g, le-leb b hi h, scan)

-- the byte at i, and the rest
pub front : (s : List ℕ) (i : ℕ) → i < length s → drop i s ≡ get_or s i 0 ∷ drop (i + 1) s
front s i h = rw (add-one, drop-cons s i 0)

-- what the answers say
pub not-utf8 : (s : List ℕ) → utf8 s ≡ false → text_number (Err NotUtf8) ≡ text_fault s
unfolding text_fault
not-utf8 s e = rw e

pub has-zero : (s : List ℕ) → utf8 s ≡ true → no_zero s ≡ false → text_number (Err HasZero) ≡ text_fault s
unfolding text_fault
has-zero s e f = rw (e, f)

pub fine : (s : List ℕ) → utf8 s ≡ true → no_zero s ≡ true → text_number (Ok tt) ≡ text_fault s
unfolding text_fault
fine s e f = rw (e, f)

-- one turn of the walk: u is whether the whole is UTF-8, v whether it has no zero
module _ (s : List ℕ) (i : ℕ) (h : i < length s) where
  scanned : (u : Bool) (d : Due) (r : Option Due) → u ≡ scan (drop i s) d.left d.low d.high
      → ((cs : List ℕ) → goes_on r cs ≡ scan (get_or s i 0 ∷ cs) d.left d.low d.high) → u ≡ goes_on r (drop (i + 1) s)
  scanned u d r e f = e ∙ ap (λ (l : List ℕ). scan l d.left d.low d.high) (front s i h) ∙ sym (f (drop (i + 1) s))

  pub scan-on : (u : Bool) (d : Due) (r : Option Due) (n : Due) → u ≡ scan (drop i s) d.left d.low d.high
      → ((cs : List ℕ) → goes_on r cs ≡ scan (get_or s i 0 ∷ cs) d.left d.low d.high) → r ≡ Some n → u ≡ scan (drop (i + 1) s) n.left n.low n.high
  scan-on u d r n e f q = scanned u d r e f ∙ ap (λ (x : Option Due). goes_on x (drop (i + 1) s)) q

  pub scan-stop : (u : Bool) (d : Due) (r : Option Due) → u ≡ scan (drop i s) d.left d.low d.high
      → ((cs : List ℕ) → goes_on r cs ≡ scan (get_or s i 0 ∷ cs) d.left d.low d.high) → r ≡ None → u ≡ false
  scan-stop u d r e f q = scanned u d r e f ∙ ap (λ (x : Option Due). goes_on x (drop (i + 1) s)) q

  pub zero-on : (v z t : Bool) → v ≡ (not z && no_zero (drop i s)) → eqb (get_or s i 0) 0 ≡ t → v ≡ (not (z || t) && no_zero (drop (i + 1) s))
  unfolding no_zero
  zero-on v true t e q = e
  zero-on v false t e q = e ∙ rw (front s i h, q)

-- past the last byte
pub scan-end : (s : List ℕ) (i n lo hi : ℕ) → length s ≤ i → scan (drop i s) n lo hi ≡ eqb n 0
unfolding scan
scan-end s i n lo hi h = rw (drop_of_length-le s h)

pub zero-end : (s : List ℕ) (i : ℕ) (z : Bool) → length s ≤ i → (not z && no_zero (drop i s)) ≡ not z
unfolding no_zero
zero-end s i true h = refl
zero-end s i false h = rw (drop_of_length-le s h)

-- the plain bytes that come first, by the first byte
pub plain-none : plain_bytes [] ≡ 0
unfolding plain_bytes
plain-none = refl

pub plain-stop : (c : ℕ) (cs : List ℕ) → (c ≡ 0) ⊎ (127 < c) → plain_bytes (c ∷ cs) ≡ 0
unfolding plain_bytes
plain-stop c cs (inl e) = rw e
plain-stop c cs (inr h) = rw (le-leb 1 c (omega arith), lt-leb c 127 h)

pub plain-more : (c : ℕ) (cs : List ℕ) → (1 ≤ c) × (c ≤ 127) → plain_bytes (c ∷ cs) ≡ plain_bytes cs + 1
unfolding plain_bytes
plain-more c cs h = rw (le-leb 1 c h.0, le-leb c 127 h.1, add-one)

-- plain bytes change nothing of the answer
Same : List ℕ → List ℕ → Type 0
Same s t = (utf8 s ≡ utf8 t) × (no_zero s ≡ no_zero t)

plain_byte : (c : ℕ) (cs : List ℕ) → 1 ≤ c → c ≤ 127 → Same (c ∷ cs) cs
unfolding Same utf8 scan no_zero lead
plain_byte c cs h k =
    let n : eqb c 0 ≡ false = ne_eqb c 0 (λ e. omega arith) in
    (rw (lt-ltb c 0x80 (omega arith), scan, lead), rw n)

plain-all : (s : List ℕ) → Same s (drop (plain_bytes s) s)
unfolding plain_bytes Same
plain-all [] = (refl, refl)
plain-all (c ∷ cs) = go (leb 1 c) (leb c 127) refl refl (plain-all cs)
  where
    go : (p q : Bool) → leb 1 c ≡ p → leb c 127 ≡ q → Same cs (drop (plain_bytes cs) cs) → Same (c ∷ cs) (drop (plain_bytes (c ∷ cs)) (c ∷ cs))
    go true true e f i = let b = plain_byte c cs (leb-true 1 c e) (leb-true c 127 f) in rw (e, f) (b.0 ∙ i.0, b.1 ∙ i.1)
    go true false e f i = rw (e, f) (refl, refl)
    go false q e f i = rw e (refl, refl)

pub plain-skip : (s : List ℕ) → text_fault s ≡ text_fault (drop (plain_bytes s) s)
unfolding text_fault Same
plain-skip s = rw ((plain-all s).0, (plain-all s).1)

pub plain-whole : (s : List ℕ) → plain_bytes s ≡ length s → text_number (Ok tt) ≡ text_fault s
unfolding text_fault utf8 scan no_zero
plain-whole s e = let z : drop (plain_bytes s) s ≡ [] = rw e (drop-length s) in sym (plain-skip s ∙ ap text_fault z)

pub plain-le : (s : List ℕ) → plain_bytes s ≤ length s
unfolding plain_bytes
plain-le [] = omega arith
plain-le (c ∷ cs) = go (between 1 127 c) (plain-le cs)
  where
    go : (q : Bool) → plain_bytes cs ≤ length cs → pick q (suc (plain_bytes cs)) 0 ≤ suc (length cs)
    go true h = omega arith
    go false h = omega arith

-- an answer: nothing, or what is wrong
abbrev pub Answer : Type 0
Answer = Result (Unit {0}) BadText

-- no two answers have one number
numbered : ℕ → Answer
numbered n = pick (eqb n 0) (Ok tt) (pick (eqb n 6) (Err NotUtf8) (Err HasZero))

numbered_is : (t : Answer) → numbered (text_number t) ≡ t
unfolding numbered
numbered_is (Ok u) = refl
numbered_is (Err NotUtf8) = refl
numbered_is (Err HasZero) = refl

pub same_number : (t u : Answer) → text_number t ≡ text_number u → t ≡ u
same_number t u e = sym (numbered_is t) ∙ ap numbered e ∙ numbered_is u

-- what each answer says, for whoever asks
abbrev pub Says : Answer → List ℕ → Type 0
Says (Ok u) s = (utf8 s ≡ true) × (no_zero s ≡ true)
Says (Err NotUtf8) s = utf8 s ≡ false
Says (Err HasZero) s = (utf8 s ≡ true) × (no_zero s ≡ false)

verdict : List ℕ → Answer
verdict s = pick (utf8 s) (pick (no_zero s) (Ok tt) (Err HasZero)) (Err NotUtf8)

pub text_says : (t : Answer) (s : List ℕ) → text_number t ≡ text_fault s → Says t s
unfolding text_fault verdict
text_says t s e =
    let v = go (utf8 s) (no_zero s) refl refl in
    subst (λ (x : Answer). Says x s) (same_number (verdict s) t (v.0 ∙ sym e)) v.1
  where
    go : (p q : Bool) → utf8 s ≡ p → no_zero s ≡ q → (text_number (verdict s) ≡ text_fault s) × Says (verdict s) s
    go true true f g = rw (f, g) (refl, (f, g))
    go true false f g = rw (f, g) (refl, (f, g))
    go false q f g = rw f (refl, f)
