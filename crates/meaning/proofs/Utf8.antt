-- UTF-8 as RFC 3629 defines it, from scalar values; and that the scan accepts exactly that.
use Prim.Native.Nat.{ℕ, zero, suc, ◌+◌, ◌-◌, ◌*◌, ◌/◌, ◌%◌, ◌≤◌, ◌<◌}
use native.Mathlib.Omega.{arith}
use mathlib.Core.Bool.{Bool, true, false}
use mathlib.Core.List.{List, [], ◌∷◌, ◌++◌}
use mathlib.Core.Path.{◌≡◌, refl, ap, ap₂, sym, subst, ◌∙◌}
use mathlib.Core.Logic.{◌⊎◌, inl, inr}
use lib.Dec.{eqb-suc-zero, leb, ltb, T, leb→le}
use Rattle.meaning.proofs.Local.{Cmp, is_le, is_gt, cmp, leb-true, leb-false}
use Rattle.meaning.specs.Text.{Scalar, encode, encode_all, All, IsUtf8, between, follow, no_lead, lead, scan, utf8}
use Rattle.meaning.proofs.Booleans.{and_left, and_right}

below : (c n : ℕ) → c < n → ltb c n ≡ true
below c n h = leb-true (suc c) n h

above : (c n : ℕ) → n ≤ c → ltb c n ≡ false
above c n h = leb-false (suc c) n (omega arith)

enc1 : (x : ℕ) → x < 0x80 → encode x ≡ x ∷ []
unfolding encode
enc1 x h = rw (below x 0x80 h)

enc2 : (x : ℕ) → 0x80 ≤ x → x < 0x800 → encode x ≡ (0xc0 + x / 64) ∷ (0x80 + x % 64) ∷ []
unfolding encode
enc2 x h k = rw (above x 0x80 h, below x 0x800 k)

enc3 : (x : ℕ) → 0x800 ≤ x → x < 0x10000 → encode x ≡ (0xe0 + x / 4096) ∷ (0x80 + x / 64 % 64) ∷ (0x80 + x % 64) ∷ []
unfolding encode
enc3 x h k = rw (above x 0x80 (omega arith), above x 0x800 h, below x 0x10000 k)

enc4 : (x : ℕ) → 0x10000 ≤ x → encode x ≡ (0xf0 + x / 262144) ∷ (0x80 + x / 4096 % 64) ∷ (0x80 + x / 64 % 64) ∷ (0x80 + x % 64) ∷ []
unfolding encode
enc4 x h = rw (above x 0x80 (omega arith), above x 0x800 (omega arith), above x 0x10000 h)

cell2 : (a b c d : ℕ) → a ≡ c → b ≡ d → ◌≡◌ {A = List ℕ} (a ∷ b ∷ []) (c ∷ d ∷ [])
cell2 a b c d p q = cc

-- from bytes to the scalar
from2 : (c k : ℕ) → 0xc2 ≤ c → c < 0xe0 → 0x80 ≤ k → k ≤ 0xbf → (x : ℕ) × Scalar x × (encode x ≡ c ∷ k ∷ [])
unfolding Scalar
from2 c k h1 h2 h3 h4 =
    let x : ℕ = (c - 0xc0) * 64 + (k - 0x80) in
    let a : 0xc0 + x / 64 ≡ c = omega arith in
    let b : 0x80 + x % 64 ≡ k = omega arith in
    (x, inl (omega arith), enc2 x (omega arith) (omega arith) ∙ cell2 _ _ _ _ a b)

digit : (q k : ℕ) → 0x80 ≤ k → k ≤ 0xbf → 0x80 + (q * 64 + (k - 0x80)) % 64 ≡ k
digit q k h1 h2 = omega arith

from3 : (c k l : ℕ) → 0xe0 ≤ c → c < 0xf0 → 0x80 ≤ k → k ≤ 0xbf → 0x80 ≤ l → l ≤ 0xbf → (x : ℕ) × (x ≡ (c - 0xe0) * 4096 + ((k - 0x80) * 64 + (l - 0x80))) × (0x800 ≤ x → encode x ≡ c ∷ k ∷ l ∷ [])
from3 c k l h1 h2 h3 h4 h5 h6 =
    let x : ℕ = (c - 0xe0) * 4096 + ((k - 0x80) * 64 + (l - 0x80)) in
    let a1 : 0xe0 + x / 4096 ≡ c = omega arith in
    let d : x / 64 ≡ (c - 0xe0) * 64 + (k - 0x80) = omega arith in
    let a2 : 0x80 + x / 64 % 64 ≡ k = ap (λ (u : ℕ). 0x80 + u % 64) d ∙ digit (c - 0xe0) k h3 h4 in
    let a3 : 0x80 + x % 64 ≡ l = omega arith in
    (x, refl, λ h. enc3 x h (omega arith) ∙ ap₂ (λ (u : ℕ) (v : List ℕ). u ∷ v) a1 (cell2 _ _ _ _ a2 a3))

from4 : (c k l m : ℕ) → 0xf0 ≤ c → c < 0xf5 → 0x80 ≤ k → k ≤ 0xbf → 0x80 ≤ l → l ≤ 0xbf → 0x80 ≤ m → m ≤ 0xbf
    → (x : ℕ) × (x ≡ (c - 0xf0) * 262144 + ((k - 0x80) * 4096 + ((l - 0x80) * 64 + (m - 0x80)))) × (0x10000 ≤ x → encode x ≡ c ∷ k ∷ l ∷ m ∷ [])
from4 c k l m h1 h2 h3 h4 h5 h6 h7 h8 =
    let x : ℕ = (c - 0xf0) * 262144 + ((k - 0x80) * 4096 + ((l - 0x80) * 64 + (m - 0x80))) in
    let a1 : 0xf0 + x / 262144 ≡ c = omega arith in
    let d2 : x / 4096 ≡ (c - 0xf0) * 64 + (k - 0x80) = omega arith in
    let d3 : x / 64 ≡ ((c - 0xf0) * 64 + (k - 0x80)) * 64 + (l - 0x80) = omega arith in
    let a2 : 0x80 + x / 4096 % 64 ≡ k = ap (λ (u : ℕ). 0x80 + u % 64) d2 ∙ digit (c - 0xf0) k h3 h4 in
    let a3 : 0x80 + x / 64 % 64 ≡ l = ap (λ (u : ℕ). 0x80 + u % 64) d3 ∙ digit ((c - 0xf0) * 64 + (k - 0x80)) l h5 h6 in
    let a4 : 0x80 + x % 64 ≡ m = omega arith in
    (x, refl, λ h. enc4 x h ∙ ap₂ (λ (u : ℕ) (v : List ℕ). u ∷ v) a1 (ap₂ (λ (u : ℕ) (v : List ℕ). u ∷ v) a2 (cell2 _ _ _ _ a3 a4)))

-- the classes of a first byte
lead-asc : (c : ℕ) → c < 0x80 → lead c ≡ follow 0 0 0
unfolding lead
lead-asc c h = rw (below c 0x80 h)

lead-two : (c : ℕ) → 0xc2 ≤ c → c < 0xe0 → lead c ≡ follow 1 0x80 0xbf
unfolding lead
lead-two c h k = rw (above c 0x80 (omega arith), above c 0xc2 h, below c 0xe0 k)

lead-e0 : lead 0xe0 ≡ follow 2 0xa0 0xbf
unfolding lead
lead-e0 = refl

lead-mid : (c : ℕ) → 0xe1 ≤ c → c < 0xed → lead c ≡ follow 2 0x80 0xbf
unfolding lead
lead-mid c h k = rw (above c 0x80 (omega arith), above c 0xc2 (omega arith), above c 0xe0 (omega arith), above c 0xe1 h, below c 0xed k)

lead-ed : lead 0xed ≡ follow 2 0x80 0x9f
unfolding lead
lead-ed = refl

lead-ee : (c : ℕ) → 0xee ≤ c → c < 0xf0 → lead c ≡ follow 2 0x80 0xbf
unfolding lead
lead-ee c h k = rw (above c 0x80 (omega arith), above c 0xc2 (omega arith), above c 0xe0 (omega arith), above c 0xe1 (omega arith), above c 0xed (omega arith), above c 0xee h, below c 0xf0 k)

lead-f0 : lead 0xf0 ≡ follow 3 0x90 0xbf
unfolding lead
lead-f0 = refl

lead-f1 : (c : ℕ) → 0xf1 ≤ c → c < 0xf4 → lead c ≡ follow 3 0x80 0xbf
unfolding lead
lead-f1 c h k =
    rw (above c 0x80 (omega arith), above c 0xc2 (omega arith), above c 0xe0 (omega arith), above c 0xe1 (omega arith), above c 0xed (omega arith))
    (rw (above c 0xee (omega arith), above c 0xf0 (omega arith), above c 0xf1 h, below c 0xf4 k))

lead-f4 : lead 0xf4 ≡ follow 3 0x80 0x8f
unfolding lead
lead-f4 = refl

lead_low : (c : ℕ) → 0x80 ≤ c → c < 0xc2 → lead c ≡ no_lead
unfolding lead
lead_low c h k = rw (above c 0x80 h, below c 0xc2 k)

lead_high : (c : ℕ) → 0xf5 ≤ c → lead c ≡ no_lead
unfolding lead
lead_high c h =
    rw (above c 0x80 (omega arith), above c 0xc2 (omega arith), above c 0xe0 (omega arith), above c 0xe1 (omega arith), above c 0xed (omega arith))
    (rw (above c 0xee (omega arith), above c 0xf0 (omega arith), above c 0xf1 (omega arith), above c 0xf4 (omega arith), above c 0xf5 h))

data View (c : ℕ) : Type 0 where
  asc : c < 0x80 → View c
  two : 0xc2 ≤ c → c < 0xe0 → View c
  e0 : c ≡ 0xe0 → View c
  mid : 0xe1 ≤ c → c < 0xed → View c
  ed : c ≡ 0xed → View c
  ee : 0xee ≤ c → c < 0xf0 → View c
  f0 : c ≡ 0xf0 → View c
  f1 : 0xf1 ≤ c → c < 0xf4 → View c
  f4 : c ≡ 0xf4 → View c
  none' : lead c ≡ no_lead → View c

-- one threshold after the other
rung : {X : Type 0} (c n : ℕ) → (c < n → X) → (n ≤ c → X) → X
rung {X} c n f g = go (cmp (suc c) n)
  where
    go : Cmp (suc c) n → X
    go (is_le t h) = f h
    go (is_gt t h) = g (omega arith)

view : (c : ℕ) → View c
view c = rung c 0x80 asc (λ h1. rung c 0xc2 (λ k. none' (lead_low c h1 k)) (λ h2. rung c 0xe0 (two h2)
    (λ h3. rung c 0xe1 (λ k. e0 (omega arith)) (λ h4. rung c 0xed (mid h4) (λ h5. rung c 0xee (λ k. ed (omega arith)) (λ h6. rung c 0xf0 (ee h6)
    (λ h7. rung c 0xf1 (λ k. f0 (omega arith)) (λ h8. rung c 0xf4 (f1 h8) (λ h9. rung c 0xf5 (λ k. f4 (omega arith)) (λ h. none' (lead_high c h)))))))))))

-- steps of the scan
scan-lead : (c : ℕ) (cs : List ℕ) (lo hi n l h : ℕ) → lead c ≡ follow n l h → scan (c ∷ cs) 0 lo hi ≡ scan cs n l h
unfolding scan
scan-lead c cs lo hi n l h e = rw (e, scan)

scan-none : (c : ℕ) (cs : List ℕ) (lo hi : ℕ) → lead c ≡ no_lead → scan (c ∷ cs) 0 lo hi ≡ false
unfolding scan
scan-none c cs lo hi e = rw (e, scan)

scan-next : (c : ℕ) (cs : List ℕ) (n lo hi : ℕ) → lo ≤ c → c ≤ hi → scan (c ∷ cs) (suc n) lo hi ≡ scan cs n 0x80 0xbf
unfolding scan
scan-next c cs n lo hi h k = rw (leb-true lo c h, leb-true c hi k, scan)

scan-next-inv : (c : ℕ) (cs : List ℕ) (n lo hi : ℕ) → T (scan (c ∷ cs) (suc n) lo hi) → (lo ≤ c) × (c ≤ hi) × T (scan cs n 0x80 0xbf)
unfolding scan
scan-next-inv c cs n lo hi t = go (between lo hi c) refl
  where
    go : (a : Bool) → between lo hi c ≡ a → (lo ≤ c) × (c ≤ hi) × T (scan cs n 0x80 0xbf)
    go true e =
        let z : T (between lo hi c) = subst T (sym e) tt in
        (leb→le lo c (and_left (leb lo c) (leb c hi) z), leb→le c hi (and_right (leb lo c) (leb c hi) z), rw (e, scan) at t)
    go false e = absurd (rw (e, scan) at t)

abbrev Conts : ℕ → ℕ → ℕ → List ℕ → Type 0
Conts zero lo hi ks = ks ≡ []
Conts (suc n) lo hi [] = ⊥
Conts (suc n) lo hi (k ∷ ks) = (lo ≤ k) × (k ≤ hi) × Conts n 0x80 0xbf ks

two-of : (lo hi : ℕ) (ks : List ℕ) → Conts 1 lo hi ks → (k : ℕ) × (ks ≡ k ∷ []) × (lo ≤ k) × (k ≤ hi)
two-of lo hi [] h = absurd h
two-of lo hi (k ∷ ks) h = (k, ap (λ (z : List ℕ). k ∷ z) h.2, h.0, h.1)

three-of : (lo hi : ℕ) (ks : List ℕ) → Conts 2 lo hi ks → (k : ℕ) × (l : ℕ) × (ks ≡ k ∷ l ∷ []) × (lo ≤ k) × (k ≤ hi) × (0x80 ≤ l) × (l ≤ 0xbf)
three-of lo hi [] h = absurd h
three-of lo hi (k ∷ ks) h = let i = two-of 0x80 0xbf ks h.2 in (k, i.0, ap (λ (z : List ℕ). k ∷ z) i.1, h.0, h.1, i.2, i.3)

four-of : (lo hi : ℕ) (ks : List ℕ) → Conts 3 lo hi ks → (k : ℕ) × (l : ℕ) × (m : ℕ) × (ks ≡ k ∷ l ∷ m ∷ []) × (lo ≤ k) × (k ≤ hi) × (0x80 ≤ l) × (l ≤ 0xbf) × (0x80 ≤ m) × (m ≤ 0xbf)
four-of lo hi [] h = absurd h
four-of lo hi (k ∷ ks) h = let i = three-of 0x80 0xbf ks h.2 in (k, i.0, i.1, ap (λ (z : List ℕ). k ∷ z) i.2, h.0, h.1, i.3, i.4, i.5, i.6)

Char : ℕ → List ℕ → Type 0
Char c ks = (x : ℕ) × Scalar x × (encode x ≡ c ∷ ks)

char1 : (c : ℕ) → c < 0x80 → Char c []
unfolding Char Scalar
char1 c h = (c, inl (omega arith), enc1 c h)

char2 : (c : ℕ) (ks : List ℕ) → 0xc2 ≤ c → c < 0xe0 → Conts 1 0x80 0xbf ks → Char c ks
unfolding Char
char2 c ks h1 h2 q =
    let i = two-of 0x80 0xbf ks q in
    let f = from2 c i.0 h1 h2 i.2 i.3 in
    (f.0, f.1, f.2 ∙ ap (λ (z : List ℕ). c ∷ z) (sym i.1))

char3 : (c lo hi : ℕ) (ks : List ℕ) → 0xe0 ≤ c → c < 0xf0 → 0x80 ≤ lo → hi ≤ 0xbf → (c ≡ 0xe0 → 0xa0 ≤ lo) → (c ≡ 0xed → hi ≤ 0x9f) → Conts 2 lo hi ks → Char c ks
unfolding Char Scalar
char3 c lo hi ks h1 h2 h3 h4 h5 h6 q =
    let i = three-of lo hi ks q in
    let f = from3 c i.0 i.1 h1 h2 (omega (arith, i.3)) (omega (arith, i.4)) i.5 i.6 in
    let big : 0x800 ≤ f.0 = rung c 0xe1 (λ z. (let w : 0xa0 ≤ lo = h5 (omega arith) in omega (arith, f.1, i.3))) (λ z. omega (arith, f.1)) in
    let s : (f.0 < 0xd800) ⊎ ((0xe000 ≤ f.0) × (f.0 < 0x110000))
    = rung c 0xed (λ z. inl (omega (arith, f.1, i.3, i.4, i.5, i.6)))
    (λ z. rung c 0xee (λ y. (let w : hi ≤ 0x9f = h6 (omega arith) in inl (omega (arith, f.1, i.3, i.4, i.5, i.6))))
    (λ y. inr (omega (arith, f.1, i.3, i.4, i.5, i.6), omega (arith, f.1, i.3, i.4, i.5, i.6)))) in
    (f.0, s, f.2 big ∙ ap (λ (z : List ℕ). c ∷ z) (sym i.2))

char4 : (c lo hi : ℕ) (ks : List ℕ) → 0xf0 ≤ c → c < 0xf5 → 0x80 ≤ lo → hi ≤ 0xbf → (c ≡ 0xf0 → 0x90 ≤ lo) → (c ≡ 0xf4 → hi ≤ 0x8f) → Conts 3 lo hi ks → Char c ks
unfolding Char Scalar
char4 c lo hi ks h1 h2 h3 h4 h5 h6 q =
    let i = four-of lo hi ks q in
    let f = from4 c i.0 i.1 i.2 h1 h2 (omega (arith, i.4)) (omega (arith, i.5)) i.6 i.7 i.8 i.9 in
    let big : 0x10000 ≤ f.0 = rung c 0xf1 (λ z. (let w : 0x90 ≤ lo = h5 (omega arith) in omega (arith, f.1, i.4))) (λ z. omega (arith, f.1)) in
    let small : f.0 < 0x110000 = rung c 0xf4 (λ z. omega (arith, f.1, i.4, i.5, i.6, i.7, i.8, i.9))
    (λ z. (let w : hi ≤ 0x8f = h6 (omega arith) in omega (arith, f.1, i.4, i.5, i.6, i.7, i.8, i.9))) in
    (f.0, inr (omega arith, small), f.2 big ∙ ap (λ (z : List ℕ). c ∷ z) (sym i.3))

one_more : (c : ℕ) (ks rest : List ℕ) → Char c ks → IsUtf8 rest → IsUtf8 (c ∷ (ks ++ rest))
unfolding Char IsUtf8 encode_all
one_more c ks rest f u = (f.0 ∷ u.0, (f.1, u.1), ap₂ (λ (x y : List ℕ). x ++ y) (sym f.2) u.2)

Split : List ℕ → ℕ → ℕ → ℕ → Type 0
Split s n lo hi = (ks : List ℕ) × (rest : List ℕ) × (s ≡ ks ++ rest) × Conts n lo hi ks × IsUtf8 rest

whole-char : (c n l h : ℕ) (cs : List ℕ) (lo hi : ℕ) → ((ks : List ℕ) → Conts n l h ks → Char c ks) → Split cs n l h → Split (c ∷ cs) 0 lo hi
unfolding Split
whole-char c n l h cs lo hi f s = ([], c ∷ cs, refl, refl, rw s.2 (one_more c s.0 s.1 (f s.0 s.3) s.4))

scan-split : (s : List ℕ) (n lo hi : ℕ) → T (scan s n lo hi) → Split s n lo hi
unfolding Split scan IsUtf8 encode_all
scan-split [] zero lo hi t = ([], [], refl, refl, ([], tt, refl))
scan-split [] (suc n) lo hi t = absurd (rw (eqb-suc-zero n) at t)
scan-split (c ∷ cs) zero lo hi t = go (λ n l h q. scan-split cs n l h q) (view c)
  where
    -- a first byte that n others follow, the next of them from l to h
    by : ((n l h : ℕ) → T (scan cs n l h) → Split cs n l h) → (n l h : ℕ) → lead c ≡ follow n l h → ((ks : List ℕ) → Conts n l h ks → Char c ks)
        → Split (c ∷ cs) 0 lo hi
    by ih n l h e f = whole-char c n l h cs lo hi f (ih n l h (rw (scan-lead c cs lo hi n l h e) at t))

    go : ((n l h : ℕ) → T (scan cs n l h) → Split cs n l h) → View c → Split (c ∷ cs) 0 lo hi
    go ih (asc h) = by ih 0 0 0 (lead-asc c h) (λ ks q. rw q (char1 c h))
    go ih (two h k) = by ih 1 0x80 0xbf (lead-two c h k) (λ ks q. char2 c ks h k q)
    go ih (e0 z) = by ih 2 0xa0 0xbf (rw z lead-e0) (λ ks q. char3 c 0xa0 0xbf ks (omega arith) (omega arith) (omega arith) (omega arith) (λ y. omega arith) (λ y. absurd (omega arith)) q)
    go ih (mid h k) = by ih 2 0x80 0xbf (lead-mid c h k) (λ ks q. char3 c 0x80 0xbf ks (omega arith) (omega arith) (omega arith) (omega arith) (λ y. absurd (omega arith)) (λ y. absurd (omega arith)) q)
    go ih (ed z) = by ih 2 0x80 0x9f (rw z lead-ed) (λ ks q. char3 c 0x80 0x9f ks (omega arith) (omega arith) (omega arith) (omega arith) (λ y. absurd (omega arith)) (λ y. omega arith) q)
    go ih (ee h k) = by ih 2 0x80 0xbf (lead-ee c h k) (λ ks q. char3 c 0x80 0xbf ks (omega arith) (omega arith) (omega arith) (omega arith) (λ y. absurd (omega arith)) (λ y. absurd (omega arith)) q)
    go ih (f0 z) = by ih 3 0x90 0xbf (rw z lead-f0) (λ ks q. char4 c 0x90 0xbf ks (omega arith) (omega arith) (omega arith) (omega arith) (λ y. omega arith) (λ y. absurd (omega arith)) q)
    go ih (f1 h k) = by ih 3 0x80 0xbf (lead-f1 c h k) (λ ks q. char4 c 0x80 0xbf ks (omega arith) (omega arith) (omega arith) (omega arith) (λ y. absurd (omega arith)) (λ y. absurd (omega arith)) q)
    go ih (f4 z) = by ih 3 0x80 0x8f (rw z lead-f4) (λ ks q. char4 c 0x80 0x8f ks (omega arith) (omega arith) (omega arith) (omega arith) (λ y. absurd (omega arith)) (λ y. omega arith) q)
    go ih (none' z) = absurd (rw (scan-none c cs lo hi z) at t)
scan-split (c ∷ cs) (suc n) lo hi t =
    let i = scan-next-inv c cs n lo hi t in
    let s = scan-split cs n 0x80 0xbf i.2 in
    (c ∷ s.0, s.1, ap (λ (z : List ℕ). c ∷ z) s.2, (i.0, i.1, s.3), s.4)

pub utf8-sound : (s : List ℕ) → T (utf8 s) → IsUtf8 s
unfolding utf8 Split
utf8-sound s t = let i = scan-split s 0 0 0 t in rw (i.2, i.3) i.4

-- and back
Good : List ℕ → Type 0
Good s = T (scan s 0 0 0)

scan-any : (s : List ℕ) (lo hi : ℕ) → Good s → T (scan s 0 lo hi)
unfolding Good scan
scan-any [] lo hi h = h
scan-any (c ∷ cs) lo hi h = h

good1 : (c : ℕ) (rest : List ℕ) → c < 0x80 → Good rest → Good (c ∷ rest)
unfolding Good
good1 c rest h g = rw (scan-lead c rest 0 0 0 0 0 (lead-asc c h)) g

good2 : (c k lo hi : ℕ) (rest : List ℕ) → lead c ≡ follow 1 lo hi → lo ≤ k → k ≤ hi → Good rest → Good (c ∷ k ∷ rest)
unfolding Good
good2 c k lo hi rest e h1 h2 g = rw (scan-lead c (k ∷ rest) 0 0 1 lo hi e, scan-next k rest 0 lo hi h1 h2) (scan-any rest 0x80 0xbf g)

good3 : (c k l lo hi : ℕ) (rest : List ℕ) → lead c ≡ follow 2 lo hi → lo ≤ k → k ≤ hi → 0x80 ≤ l → l ≤ 0xbf → Good rest → Good (c ∷ k ∷ l ∷ rest)
unfolding Good
good3 c k l lo hi rest e h1 h2 h3 h4 g = rw (scan-lead c (k ∷ l ∷ rest) 0 0 2 lo hi e, scan-next k (l ∷ rest) 1 lo hi h1 h2, scan-next l rest 0 0x80 0xbf h3 h4) (scan-any rest 0x80 0xbf g)

good4 : (c k l m lo hi : ℕ) (rest : List ℕ) → lead c ≡ follow 3 lo hi → lo ≤ k → k ≤ hi → 0x80 ≤ l → l ≤ 0xbf → 0x80 ≤ m → m ≤ 0xbf → Good rest → Good (c ∷ k ∷ l ∷ m ∷ rest)
unfolding Good
good4 c k l m lo hi rest e h1 h2 h3 h4 h5 h6 g =
    rw (scan-lead c (k ∷ l ∷ m ∷ rest) 0 0 3 lo hi e, scan-next k (l ∷ m ∷ rest) 2 lo hi h1 h2, scan-next l (m ∷ rest) 1 0x80 0xbf h3 h4, scan-next m rest 0 0x80 0xbf h5 h6) (scan-any rest 0x80 0xbf g)

cont-lo : (x : ℕ) → 0x80 ≤ 0x80 + x % 64
cont-lo x = omega arith

cont-hi : (x : ℕ) → 0x80 + x % 64 ≤ 0xbf
cont-hi x = omega arith

-- the three and four bytes of a scalar, by the class of the first
three-good : (x lo hi : ℕ) (rest : List ℕ) → lead (0xe0 + x / 4096) ≡ follow 2 lo hi → lo ≤ 0x80 + x / 64 % 64 → 0x80 + x / 64 % 64 ≤ hi → Good rest
    → Good ((0xe0 + x / 4096) ∷ (0x80 + x / 64 % 64) ∷ (0x80 + x % 64) ∷ rest)
three-good x lo hi rest e a b g = good3 (0xe0 + x / 4096) (0x80 + x / 64 % 64) (0x80 + x % 64) lo hi rest e a b (cont-lo x) (cont-hi x) g

four-good : (x lo hi : ℕ) (rest : List ℕ) → lead (0xf0 + x / 262144) ≡ follow 3 lo hi → lo ≤ 0x80 + x / 4096 % 64 → 0x80 + x / 4096 % 64 ≤ hi → Good rest
    → Good ((0xf0 + x / 262144) ∷ (0x80 + x / 4096 % 64) ∷ (0x80 + x / 64 % 64) ∷ (0x80 + x % 64) ∷ rest)
four-good x lo hi rest e a b g =
    good4 (0xf0 + x / 262144) (0x80 + x / 4096 % 64) (0x80 + x / 64 % 64) (0x80 + x % 64) lo hi rest e a b
    (cont-lo (x / 64)) (cont-hi (x / 64)) (cont-lo x) (cont-hi x) g

good-char : (x : ℕ) (rest : List ℕ) → Scalar x → Good rest → Good (encode x ++ rest)
unfolding Scalar
good-char x rest s g =
    rung x 0x80 (λ h. rw (enc1 x h) (good1 x rest h g)) (λ h1.
    rung x 0x800 (λ k. rw (enc2 x h1 k) (good2 (0xc0 + x / 64) (0x80 + x % 64) 0x80 0xbf rest (lead-two (0xc0 + x / 64) (omega arith) (omega arith)) (cont-lo x) (cont-hi x) g)) (λ h2.
    rung x 0x10000 (λ k. rw (enc3 x h2 k) (three h2 k s)) (λ h3. rw (enc4 x h3) (four h3 s))))
  where
    three : 0x800 ≤ x → x < 0x10000 → (x < 0xd800) ⊎ ((0xe000 ≤ x) × (x < 0x110000)) → Good ((0xe0 + x / 4096) ∷ (0x80 + x / 64 % 64) ∷ (0x80 + x % 64) ∷ rest)
    three h k (inl z) =
        rung x 0x1000 (λ y. three-good x 0xa0 0xbf rest (let q : 0xe0 + x / 4096 ≡ 0xe0 = omega arith in rw q lead-e0) (omega arith) (cont-hi (x / 64)) g)
        (λ y. rung x 0xd000 (λ w. three-good x 0x80 0xbf rest (lead-mid (0xe0 + x / 4096) (omega arith) (omega arith)) (cont-lo (x / 64)) (cont-hi (x / 64)) g)
        (λ w. three-good x 0x80 0x9f rest (let q : 0xe0 + x / 4096 ≡ 0xed = omega arith in rw q lead-ed) (cont-lo (x / 64)) (omega arith) g))
    three h k (inr z) = three-good x 0x80 0xbf rest (lead-ee (0xe0 + x / 4096) (omega arith) (omega arith)) (cont-lo (x / 64)) (cont-hi (x / 64)) g

    four : 0x10000 ≤ x → (x < 0xd800) ⊎ ((0xe000 ≤ x) × (x < 0x110000)) → Good ((0xf0 + x / 262144) ∷ (0x80 + x / 4096 % 64) ∷ (0x80 + x / 64 % 64) ∷ (0x80 + x % 64) ∷ rest)
    four h (inl z) = absurd (omega arith)
    four h (inr z) =
        let z1 : x < 0x110000 = z.1 in
        rung x 0x40000 (λ y. four-good x 0x90 0xbf rest (let q : 0xf0 + x / 262144 ≡ 0xf0 = omega arith in rw q lead-f0) (omega arith) (cont-hi (x / 4096)) g)
        (λ y. rung x 0x100000 (λ w. four-good x 0x80 0xbf rest (lead-f1 (0xf0 + x / 262144) (omega arith) (omega arith)) (cont-lo (x / 4096)) (cont-hi (x / 4096)) g)
        (λ w. four-good x 0x80 0x8f rest (let q : 0xf0 + x / 262144 ≡ 0xf4 = omega arith in rw q lead-f4) (cont-lo (x / 4096)) (omega arith) g))

good-all : (xs : List ℕ) → All Scalar xs → Good (encode_all xs)
unfolding encode_all Good scan
good-all [] h = tt
good-all (x ∷ xs) h = good-char x (encode_all xs) h.0 (good-all xs h.1)

pub utf8-complete : (s : List ℕ) → IsUtf8 s → T (utf8 s)
unfolding utf8 IsUtf8 Good
utf8-complete s u = rw u.2 (good-all u.0 u.1)
