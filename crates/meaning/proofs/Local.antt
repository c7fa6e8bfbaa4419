-- Demand 3 for every reader that is made of the combinators: an answer rests on the bytes before its end alone.
use Prim.Native.Nat.{ℕ, zero, suc, ◌+◌, ◌≤◌, ◌<◌}
use native.Mathlib.Omega.{arith}
use mathlib.Core.Bool.{Bool, true, false, not}
use mathlib.Core.List.{List, [], ◌∷◌, ◌++◌}
use mathlib.Core.Path.{◌≡◌, refl, ap, sym, subst, ◌∙◌}
use lib.ListN.{length, take, drop, length-append, length-take, take-append-drop}
use lib.Seq.{take-append-le, drop-append-le, length-take-le}
use lib.Dec.{leb, T, leb→le, nleb→lt}
use Rattle.meaning.specs.Reader.{Res, got, fault, stop, R, after, ret, here, fail, ◌>>=◌, check, bytes, ahead, window, within, many}
use Rattle.meaning.specs.declared.Refusal.{Refusal}
use Rattle.meaning.specs.declared.Fault.TheVariants.{NotEnoughBytes, NotEnoughBytesForCollection}
use Rattle.meaning.specs.Faults.{is_short}
use Rattle.meaning.specs.declared.Fault.{Fault}

pub data Cmp (m n : ℕ) : Type 0 where
  is_le : leb m n ≡ true → m ≤ n → Cmp m n
  is_gt : leb m n ≡ false → n < m → Cmp m n

true→T : (a : Bool) → a ≡ true → T a
true→T true e = tt
true→T false e = subst T (sym e) tt

false→T : (a : Bool) → a ≡ false → T (not a)
false→T true e = subst (λ (a : Bool). T (not a)) (sym e) tt
false→T false e = tt

pub cmp : (m n : ℕ) → Cmp m n
cmp m n = go (leb m n) refl
  where
    go : (a : Bool) → leb m n ≡ a → Cmp m n
    go true e = is_le e (leb→le m n (true→T (leb m n) e))
    go false e = is_gt e (nleb→lt m n (false→T (leb m n) e))

pub leb-true : (m n : ℕ) → m ≤ n → leb m n ≡ true
leb-true m n h = go (cmp m n)
  where
    go : Cmp m n → leb m n ≡ true
    go (is_le e l) = e
    go (is_gt e l) = absurd (omega arith)

pub leb-false : (m n : ℕ) → n < m → leb m n ≡ false
leb-false m n h = go (cmp m n)
  where
    go : Cmp m n → leb m n ≡ false
    go (is_le e l) = absurd (omega arith)
    go (is_gt e l) = e

abbrev pub short : {A : Type 0} → Res A → Bool
short (got v e) = false
short (fault x) = is_short x.fault

-- up: a final answer stays when bytes are added. down: an answer that ends inside a first part is that part's answer too
pub record Local {A : Type 0} (r : R A) : Type 0 where
  pub up : (b c : List ℕ) (off : ℕ) → off ≤ length b → short (r b off) ≡ false → r (b ++ c) off ≡ r b off
  pub bound : (b : List ℕ) (off : ℕ) (v : A) (e : ℕ) → off ≤ length b → r b off ≡ got v e → (off ≤ e) × (e ≤ length b)
  pub down : (b c : List ℕ) (off : ℕ) (v : A) (e : ℕ) → off ≤ length b → r (b ++ c) off ≡ got v e → e ≤ length b → r b off ≡ got v e

-- the answers that a bind can give
pub data Ran {A B : Type 0} (r : R A) (f : A → R B) (b : List ℕ) (off : ℕ) : Type 0 where
  ran : (v : A) (e : ℕ) → r b off ≡ got v e → (r >>= f) b off ≡ f v b e → Ran r f b off
  stopped : (x : Refusal) → r b off ≡ fault x → (r >>= f) b off ≡ fault x → Ran r f b off

pub bind_is : {A B : Type 0} (r : R A) (f : A → R B) (b : List ℕ) (off : ℕ) → Ran r f b off
unfolding ◌>>=◌
bind_is {A} {B} r f b off = go (r b off) refl
  where
    go : (x : Res A) → r b off ≡ x → Ran r f b off
    go (got v e) h = ran v e h (ap (λ (x : Res A). after x f b) h)
    go (fault x) h = stopped x h (ap (λ (x : Res A). after x f b) h)

pub bind-got : {A B : Type 0} (r : R A) (f : A → R B) (b : List ℕ) (off : ℕ) (v : A) (e : ℕ) → r b off ≡ got v e → (r >>= f) b off ≡ f v b e
unfolding ◌>>=◌
bind-got {A} r f b off v e h = ap (λ (x : Res A). after x f b) h

pub bind-fault : {A B : Type 0} (r : R A) (f : A → R B) (b : List ℕ) (off : ℕ) (x : Refusal) → r b off ≡ fault x → (r >>= f) b off ≡ fault x
unfolding ◌>>=◌
bind-fault {A} r f b off x h = ap (λ (x : Res A). after x f b) h

-- what an accepted bind went through
pub bind_inv : {A B : Type 0} (r : R A) (f : A → R B) (b : List ℕ) (off : ℕ) (w : B) (e : ℕ) → (r >>= f) b off ≡ got w e
    → (v : A) × (m : ℕ) × (r b off ≡ got v m) × (f v b m ≡ got w e)
bind_inv {A} {B} r f b off w e h = go (bind_is r f b off)
  where
    go : Ran r f b off → (v : A) × (m : ℕ) × (r b off ≡ got v m) × (f v b m ≡ got w e)
    go (ran v m h1 h2) = (v, m, h1, sym h2 ∙ h)
    go (stopped x h1 h2) = absurd (let z : ◌≡◌ {A = ℕ} 0 1 = cc in omega arith)

pub bind-local : {A B : Type 0} (r : R A) (f : A → R B) → Local r → ((v : A) → Local (f v)) → Local (r >>= f)
bind-local {A} {B} r f lr lf = record { up = up'; bound = bound'; down = down' }
  where
    up' : (b c : List ℕ) (off : ℕ) → off ≤ length b → short ((r >>= f) b off) ≡ false → (r >>= f) (b ++ c) off ≡ (r >>= f) b off
    up' b c off h s = go (bind_is r f b off)
      where
        go : Ran r f b off → (r >>= f) (b ++ c) off ≡ (r >>= f) b off
        go (ran v e h1 h2) =
            let e1 : r (b ++ c) off ≡ r b off = lr.up b c off h (ap short h1) in
            let e2 : f v (b ++ c) e ≡ f v b e = (lf v).up b c e (lr.bound b off v e h h1).1 (sym (ap short h2) ∙ s) in
            bind-got r f (b ++ c) off v e (e1 ∙ h1) ∙ e2 ∙ sym h2
        go (stopped x h1 h2) =
            let e1 : r (b ++ c) off ≡ r b off = lr.up b c off h (ap short h1 ∙ sym (ap short h2) ∙ s) in
            bind-fault r f (b ++ c) off x (e1 ∙ h1) ∙ sym h2

    bound' : (b : List ℕ) (off : ℕ) (w : B) (e : ℕ) → off ≤ length b → (r >>= f) b off ≡ got w e → (off ≤ e) × (e ≤ length b)
    bound' b off w e h k =
        let i = bind_inv r f b off w e k in
        let b1 = lr.bound b off i.0 i.1 h i.2 in
        let b2 = (lf i.0).bound b i.1 w e b1.1 i.3 in
        omega arith

    down' : (b c : List ℕ) (off : ℕ) (w : B) (e : ℕ) → off ≤ length b → (r >>= f) (b ++ c) off ≡ got w e → e ≤ length b → (r >>= f) b off ≡ got w e
    down' b c off w e h k l =
        let i = bind_inv r f (b ++ c) off w e k in
        let h' : off ≤ length (b ++ c) = rw length-append (omega arith) in
        let b1 = lr.bound (b ++ c) off i.0 i.1 h' i.2 in
        let b2 = (lf i.0).bound (b ++ c) i.1 w e b1.1 i.3 in
        let l1 : i.1 ≤ length b = omega arith in
        bind-got r f b off i.0 i.1 (lr.down b c off i.0 i.1 h i.2 l1) ∙ (lf i.0).down b c i.1 w e l1 i.3 l

-- no answer at all is both final and not
pub both : {X : Type 0} (a : Bool) → a ≡ true → a ≡ false → X
both a p q = absurd (let z : ◌≡◌ {A = Bool} true false = sym p ∙ q in subst T z tt)

pub ret-local : {A : Type 0} (x : A) → Local (ret x)
unfolding ret
ret-local x = record {
  up = λ b c off h s. refl;
  bound = λ b off v e h k. (let z : off ≡ e = cc in omega arith, let z : off ≡ e = cc in omega arith);
  down = λ b c off v e h k l. k;
}

pub here-local : Local here
unfolding here
here-local = record {
  up = λ b c off h s. refl;
  bound = λ b off v e h k. (let z : off ≡ e = cc in omega arith, let z : off ≡ e = cc in omega arith);
  down = λ b c off v e h k l. k;
}

pub fail-local : {A : Type 0} (k : Fault) (p : ℕ) → Local (fail {A = A} k p)
unfolding fail
fail-local k p = record {
  up = λ b c off h s. refl;
  bound = λ b off v e h q. absurd (let z : ◌≡◌ {A = ℕ} 0 1 = cc in omega arith);
  down = λ b c off v e h q l. q;
}

pub check-local : (a : Bool) (k : Fault) (p : ℕ) → Local (check a k p)
unfolding check
check-local true k p = record {
  up = λ b c off h s. refl;
  bound = λ b off v e h k. (let z : off ≡ e = cc in omega arith, let z : off ≡ e = cc in omega arith);
  down = λ b c off v e h k l. k;
}
check-local false k p = record {
  up = λ b c off h s. refl;
  bound = λ b off v e h q. absurd (let z : ◌≡◌ {A = ℕ} 0 1 = cc in omega arith);
  down = λ b c off v e h q l. q;
}

pub bytes-yes : (n p : ℕ) (b : List ℕ) (off : ℕ) → off + n ≤ length b → bytes n p b off ≡ got (take n (drop off b)) (off + n)
unfolding bytes
bytes-yes n p b off h = rw (leb-true (off + n) (length b) h, bytes)

pub bytes-no : (n p : ℕ) (b : List ℕ) (off : ℕ) → length b < off + n → bytes n p b off ≡ stop NotEnoughBytes p
unfolding bytes
bytes-no n p b off h = rw (leb-false (off + n) (length b) h, bytes)

pub ahead-yes : {A : Type 0} (n : ℕ) (r : R A) (b : List ℕ) (off : ℕ) → off + n ≤ length b → ahead n r b off ≡ r b off
unfolding ahead
ahead-yes n r b off h = rw (leb-true (off + n) (length b) h, ahead)

pub ahead-no : {A : Type 0} (n : ℕ) (r : R A) (b : List ℕ) (off : ℕ) → length b < off + n → ahead n r b off ≡ stop NotEnoughBytesForCollection off
unfolding ahead
ahead-no n r b off h = rw (leb-false (off + n) (length b) h, ahead)

pub le-append : (b c : List ℕ) {n : ℕ} → n ≤ length b → n ≤ length (b ++ c)
le-append b c h = rw length-append (omega arith)

pub bytes-inv : (n p : ℕ) (b : List ℕ) (off : ℕ) (v : List ℕ) (e : ℕ) → bytes n p b off ≡ got v e
    → (off + n ≤ length b) × (v ≡ take n (drop off b)) × (e ≡ off + n)
bytes-inv n p b off v e h = go (cmp (off + n) (length b))
  where
    go : Cmp (off + n) (length b) → (off + n ≤ length b) × (v ≡ take n (drop off b)) × (e ≡ off + n)
    go (is_le t l) = let h1 = bytes-yes n p b off l in (l, cc, cc)
    go (is_gt t l) = let h1 = bytes-no n p b off l in absurd (let z : ◌≡◌ {A = ℕ} 0 1 = cc in omega arith)

pub take_part : (n off : ℕ) (b c : List ℕ) → off + n ≤ length b → take n (drop off (b ++ c)) ≡ take n (drop off b)
take_part n off b c h =
    let h1 : off ≤ length b = omega arith in
    let h2 : n ≤ length (drop off b) = rw lib.ListN.length-drop (omega arith) in
    rw (drop-append-le off b c h1, take-append-le n (drop off b) c h2)

pub bytes-local : (n p : ℕ) → Local (bytes n p)
bytes-local n p = record { up = up'; bound = bound'; down = down' }
  where
    up' : (b c : List ℕ) (off : ℕ) → off ≤ length b → short (bytes n p b off) ≡ false → bytes n p (b ++ c) off ≡ bytes n p b off
    up' b c off h s = go (cmp (off + n) (length b))
      where
        go : Cmp (off + n) (length b) → bytes n p (b ++ c) off ≡ bytes n p b off
        go (is_le t l) = bytes-yes n p (b ++ c) off (le-append b c l) ∙ ap (λ (x : List ℕ). got x (off + n)) (take_part n off b c l) ∙ sym (bytes-yes n p b off l)
        go (is_gt t l) = both _ (ap short (bytes-no n p b off l)) s

    bound' : (b : List ℕ) (off : ℕ) (v : List ℕ) (e : ℕ) → off ≤ length b → bytes n p b off ≡ got v e → (off ≤ e) × (e ≤ length b)
    bound' b off v e h k = let i = bytes-inv n p b off v e k in omega arith

    down' : (b c : List ℕ) (off : ℕ) (v : List ℕ) (e : ℕ) → off ≤ length b → bytes n p (b ++ c) off ≡ got v e → e ≤ length b → bytes n p b off ≡ got v e
    down' b c off v e h k l =
        let i = bytes-inv n p (b ++ c) off v e k in
        let l1 : off + n ≤ length b = omega arith in
        let h1 = bytes-yes n p b off l1 in
        let h2 = take_part n off b c l1 in
        let h3 = i.1 in
        let h4 = i.2 in
        cc

pub ahead-inv : {A : Type 0} (n : ℕ) (r : R A) (b : List ℕ) (off : ℕ) (v : A) (e : ℕ) → ahead n r b off ≡ got v e
    → (off + n ≤ length b) × (r b off ≡ got v e)
ahead-inv {A} n r b off v e k = go (cmp (off + n) (length b))
  where
    go : Cmp (off + n) (length b) → (off + n ≤ length b) × (r b off ≡ got v e)
    go (is_le t l) = (l, sym (ahead-yes n r b off l) ∙ k)
    go (is_gt t l) = let h1 = ahead-no n r b off l in absurd (let z : ◌≡◌ {A = ℕ} 0 1 = cc in omega arith)

pub ahead-local : {A : Type 0} (n : ℕ) (r : R A) → Local r
    → ((b : List ℕ) (off : ℕ) (v : A) (e : ℕ) → off ≤ length b → r b off ≡ got v e → off + n ≤ e) → Local (ahead n r)
ahead-local {A} n r lr reach = record { up = up'; bound = bound'; down = down' }
  where
    up' : (b c : List ℕ) (off : ℕ) → off ≤ length b → short (ahead n r b off) ≡ false → ahead n r (b ++ c) off ≡ ahead n r b off
    up' b c off h s = go (cmp (off + n) (length b))
      where
        go : Cmp (off + n) (length b) → ahead n r (b ++ c) off ≡ ahead n r b off
        go (is_le t l) = ahead-yes n r (b ++ c) off (le-append b c l) ∙ lr.up b c off h (sym (ap short (ahead-yes n r b off l)) ∙ s) ∙ sym (ahead-yes n r b off l)
        go (is_gt t l) = both _ (ap short (ahead-no n r b off l)) s

    bound' : (b : List ℕ) (off : ℕ) (v : A) (e : ℕ) → off ≤ length b → ahead n r b off ≡ got v e → (off ≤ e) × (e ≤ length b)
    bound' b off v e h k = lr.bound b off v e h (ahead-inv n r b off v e k).1

    down' : (b c : List ℕ) (off : ℕ) (v : A) (e : ℕ) → off ≤ length b → ahead n r (b ++ c) off ≡ got v e → e ≤ length b → ahead n r b off ≡ got v e
    down' b c off v e h k l =
        let k1 = (ahead-inv n r (b ++ c) off v e k).1 in
        let q : off + n ≤ e = reach (b ++ c) off v e (le-append b c h) k1 in
        let q1 : off + n ≤ length b = omega arith in
        ahead-yes n r b off q1 ∙ lr.down b c off v e h k1 l

abbrev pub Bounded : {A : Type 0} → R A → Type 0
Bounded {A} r = (b : List ℕ) (off : ℕ) (v : A) (e : ℕ) → off ≤ length b → r b off ≡ got v e → (off ≤ e) × (e ≤ length b)

-- it stops nowhere but at the end of what it sees
abbrev pub Full : {A : Type 0} → R A → Type 0
Full {A} r = (b : List ℕ) (off : ℕ) (v : A) (e : ℕ) → off ≤ length b → r b off ≡ got v e → length b ≤ e

-- a window, whatever its refusal: what it reads, and that it refuses
module _ {A : Type 0} (k : Fault) (at : ℕ → ℕ) (n : ℕ) (r : R A) where
  pub window-yes : (b : List ℕ) (off : ℕ) → off + n ≤ length b → window k at n r b off ≡ r (take (off + n) b) off
  unfolding window
  window-yes b off h = rw (leb-true (off + n) (length b) h, window)

  pub window-no : (b : List ℕ) (off : ℕ) → length b < off + n → window k at n r b off ≡ stop k (at off)
  unfolding window
  window-no b off h = rw (leb-false (off + n) (length b) h, window)

  pub window-inv : (b : List ℕ) (off : ℕ) (v : A) (e : ℕ) → window k at n r b off ≡ got v e
      → (off + n ≤ length b) × (r (take (off + n) b) off ≡ got v e)
  window-inv b off v e q = go (cmp (off + n) (length b))
    where
      go : Cmp (off + n) (length b) → (off + n ≤ length b) × (r (take (off + n) b) off ≡ got v e)
      go (is_le t l) = (l, sym (window-yes b off l) ∙ q)
      go (is_gt t l) = let h1 = window-no b off l in absurd (let z : ◌≡◌ {A = ℕ} 0 1 = cc in omega arith)

  pub window-got : (b : List ℕ) (off : ℕ) (v : A) (e : ℕ) → off + n ≤ length b → r (take (off + n) b) off ≡ got v e
      → window k at n r b off ≡ got v e
  window-got b off v e l q = window-yes b off l ∙ q

  module _ (br : Bounded r) (fr : Full r) where
    -- an accepted part is the whole part
    pub window-end : (b : List ℕ) (off : ℕ) (v : A) (e : ℕ) → window k at n r b off ≡ got v e → e ≡ off + n
    window-end b off v e q =
        let i = window-inv b off v e q in
        let t : length (take (off + n) b) ≡ off + n = length-take-le (off + n) b i.0 in
        let o : off ≤ length (take (off + n) b) = rw t (omega arith) in
        let f = fr (take (off + n) b) off v e o i.1 in
        let g = br (take (off + n) b) off v e o i.1 in
        omega arith

    -- a window that refuses as too short is local, whatever stands in it
    pub window-local : is_short k ≡ true → Local (window k at n r)
    window-local z = record { up = up'; bound = bound'; down = down' }
      where
        up' : (b c : List ℕ) (off : ℕ) → off ≤ length b → short (window k at n r b off) ≡ false
            → window k at n r (b ++ c) off ≡ window k at n r b off
        up' b c off h s = go (cmp (off + n) (length b))
          where
            go : Cmp (off + n) (length b) → window k at n r (b ++ c) off ≡ window k at n r b off
            go (is_le t l) =
                window-yes (b ++ c) off (le-append b c l) ∙ ap (λ (x : List ℕ). r x off) (take-append-le (off + n) b c l)
                ∙ sym (window-yes b off l)
            go (is_gt t l) = both _ (ap short (window-no b off l) ∙ z) s

        bound' : (b : List ℕ) (off : ℕ) (v : A) (e : ℕ) → off ≤ length b → window k at n r b off ≡ got v e → (off ≤ e) × (e ≤ length b)
        bound' b off v e h q =
            let i = window-inv b off v e q in
            let j = window-end b off v e q in
            omega arith

        down' : (b c : List ℕ) (off : ℕ) (v : A) (e : ℕ) → off ≤ length b → window k at n r (b ++ c) off ≡ got v e → e ≤ length b
            → window k at n r b off ≡ got v e
        down' b c off v e h q l =
            let j = window-end (b ++ c) off v e q in
            let l1 : off + n ≤ length b = omega arith in
            window-got b off v e l1
            (ap (λ (x : List ℕ). r x off) (sym (take-append-le (off + n) b c l1)) ∙ (window-inv (b ++ c) off v e q).1)

-- the two windows that there are
pub within-yes : {A : Type 0} (n : ℕ) (r : R A) (b : List ℕ) (off : ℕ) → off + n ≤ length b → within n r b off ≡ r (take (off + n) b) off
within-yes n r b off h = window-yes NotEnoughBytesForCollection (λ p. p) n r b off h

pub within-no : {A : Type 0} (n : ℕ) (r : R A) (b : List ℕ) (off : ℕ) → length b < off + n → within n r b off ≡ stop NotEnoughBytesForCollection off
within-no n r b off h = window-no NotEnoughBytesForCollection (λ p. p) n r b off h

pub bind-bounded : {A B : Type 0} (r : R A) (f : A → R B) → Bounded r → ((v : A) → Bounded (f v)) → Bounded (r >>= f)
bind-bounded r f br bf b off w e h k =
    let i = bind_inv r f b off w e k in
    let b1 = br b off i.0 i.1 h i.2 in
    let b2 = bf i.0 b i.1 w e b1.1 i.3 in
    omega arith

pub bind-full : {A B : Type 0} (r : R A) (f : A → R B) → Bounded r → ((v : A) → Full (f v)) → Full (r >>= f)
bind-full r f br ff b off w e h k =
    let i = bind_inv r f b off w e k in
    let b1 = br b off i.0 i.1 h i.2 in
    ff i.0 b i.1 w e b1.1 i.3

pub ret_inv : {A : Type 0} (x : A) (b : List ℕ) (off : ℕ) (v : A) (e : ℕ) → ret x b off ≡ got v e → (x ≡ v) × (off ≡ e)
unfolding ret
ret_inv x b off v e k = (cc, cc)

pub map-full : {A B : Type 0} (r : R A) (g : A → B) → Full r → Full (r >>= λ v. ret (g v))
map-full r g fr b off w e h k =
    let i = bind_inv r (λ v. ret (g v)) b off w e k in
    let j = ret_inv (g i.0) b i.1 w e i.3 in
    let f = fr b off i.0 i.1 h i.2 in
    omega arith

-- the rounds of a loop
abbrev pub round : {A : Type 0} → ℕ → R A → R (List A)
round n r = r >>= λ v. many n r >>= λ vs. ret (v ∷ vs)

-- what an accepted loop went through
pub data Looped {A : Type 0} (n : ℕ) (r : R A) (b : List ℕ) (off : ℕ) (v : List A) (e : ℕ) : Type 0 where
  ended : length b ≤ off → v ≡ [] → e ≡ off → Looped n r b off v e
  again : (m : ℕ) → n ≡ suc m → off < length b → round m r b off ≡ got v e → Looped n r b off v e

pub many-end : {A : Type 0} (n : ℕ) (r : R A) (b : List ℕ) (off : ℕ) → length b ≤ off → many n r b off ≡ got [] off
unfolding many
many-end zero r b off h = rw (leb-true (length b) off h, many)
many-end (suc n) r b off h = rw (leb-true (length b) off h, many)

pub many-round : {A : Type 0} (n : ℕ) (r : R A) (b : List ℕ) (off : ℕ) → off < length b → many (suc n) r b off ≡ round n r b off
unfolding many
many-round n r b off h = rw (leb-false (length b) off h, many)

many-out : {A : Type 0} (r : R A) (b : List ℕ) (off : ℕ) → off < length b → many zero r b off ≡ stop NotEnoughBytes off
unfolding many
many-out r b off h = rw (leb-false (length b) off h, many)

pub many-inv : {A : Type 0} (n : ℕ) (r : R A) (b : List ℕ) (off : ℕ) (v : List A) (e : ℕ) → many n r b off ≡ got v e → Looped n r b off v e
many-inv {A} n r b off v e k = go n (cmp (length b) off) k
  where
    go : (m : ℕ) → Cmp (length b) off → many m r b off ≡ got v e → Looped m r b off v e
    go zero (is_le t l) k = let h1 = many-end zero r b off l in ended l (cc) (cc)
    go zero (is_gt t l) k = let h1 = many-out r b off l in absurd (let z : ◌≡◌ {A = ℕ} 0 1 = cc in omega arith)
    go (suc m) (is_le t l) k = let h1 = many-end (suc m) r b off l in ended l (cc) (cc)
    go (suc m) (is_gt t l) k = again m refl l (sym (many-round m r b off l) ∙ k)

pub round-bounded : {A : Type 0} (n : ℕ) (r : R A) → Bounded r → Bounded (many n r) → Bounded (round n r)
round-bounded n r br bm = bind-bounded r (λ v. many n r >>= λ vs. ret (v ∷ vs)) br
    (λ v. bind-bounded (many n r) (λ vs. ret (v ∷ vs)) bm (λ vs. (ret-local (v ∷ vs)).bound))

pub many-bounded : {A : Type 0} (n : ℕ) (r : R A) → Bounded r → Bounded (many n r)
many-bounded zero r br b off v e h k = go (many-inv zero r b off v e k)
  where
    go : Looped zero r b off v e → (off ≤ e) × (e ≤ length b)
    go (ended l p q) = omega arith
    go (again m z l q) = absurd (omega arith)
many-bounded (suc n) r br b off v e h k = go (many-bounded n r br) (many-inv (suc n) r b off v e k)
  where
    go : Bounded (many n r) → Looped (suc n) r b off v e → (off ≤ e) × (e ≤ length b)
    go bm (ended l p q) = omega arith
    go bm (again m z l q) =
        let z1 : n ≡ m = omega arith in
        round-bounded n r br bm b off v e h (subst (λ (j : ℕ). round j r b off ≡ got v e) (sym z1) q)

pub many-full : {A : Type 0} (n : ℕ) (r : R A) → Bounded r → Full (many n r)
many-full zero r br b off v e h k = go (many-inv zero r b off v e k)
  where
    go : Looped zero r b off v e → length b ≤ e
    go (ended l p q) = omega arith
    go (again m z l q) = absurd (omega arith)
many-full (suc n) r br b off v e h k = go (many-full n r br) (many-inv (suc n) r b off v e k)
  where
    go : Full (many n r) → Looped (suc n) r b off v e → length b ≤ e
    go fm (ended l p q) = omega arith
    go fm (again m z l q) =
        let z1 : n ≡ m = omega arith in
        bind-full r (λ x. many n r >>= λ vs. ret (x ∷ vs)) br
        (λ x. map-full (many n r) (λ vs. x ∷ vs) fm) b off v e h (subst (λ (j : ℕ). round j r b off ≡ got v e) (sym z1) q)

-- Demand 3, of any local reader. (a) An accepted answer is that of every buffer with the same bytes up to its end
pub same_first : {A : Type 0} (r : R A) → Local r → (b d : List ℕ) (off : ℕ) (v : A) (e : ℕ) → off ≤ length b → r b off ≡ got v e
    → take e d ≡ take e b → r d off ≡ got v e
same_first {A} r lr b d off v e h k t =
    let g = lr.bound b off v e h k in
    let n1 : length (take e b) ≡ e = length-take-le e b g.1 in
    let n2 : length (take e d) ≡ e = ap length t ∙ n1 in
    let k1 : r (take e b ++ drop e b) off ≡ got v e = rw take-append-drop k in
    let k2 : r (take e b) off ≡ got v e = lr.down (take e b) (drop e b) off v e (rw n1 g.0) k1 (rw n1 (omega arith)) in
    let k3 : r (take e d) off ≡ got v e = rw t k2 in
    let k4 : r (take e d ++ drop e d) off ≡ r (take e d) off = lr.up (take e d) (drop e d) off (rw n2 g.0) (ap short k3) in
    rw take-append-drop at (k4 ∙ k3)

-- (b) a refusal other than 2 and 3 stays when bytes are appended: `up`. (c) A shorter cut of an accepted buffer is too short
pub cut_short : {A : Type 0} (r : R A) → Local r → (b : List ℕ) (off : ℕ) (v : A) (e m : ℕ) → off ≤ length b → r b off ≡ got v e
    → off ≤ m → m < e → short (r (take m b) off) ≡ true
cut_short {A} r lr b off v e m h k lo hi = go (short (r (take m b) off)) refl
  where
    go : (a : Bool) → short (r (take m b) off) ≡ a → short (r (take m b) off) ≡ true
    go true z = z
    go false z =
        let g = lr.bound b off v e h k in
        let n1 : length (take m b) ≡ m = length-take-le m b (omega arith) in
        let o : off ≤ length (take m b) = rw n1 lo in
        let k1 : r (take m b ++ drop m b) off ≡ r (take m b) off = lr.up (take m b) (drop m b) off o z in
        let k2 : r b off ≡ r (take m b) off = rw take-append-drop at k1 in
        let g2 = lr.bound (take m b) off v e o (sym k2 ∙ k) in
        absurd (omega arith)

-- a refusal says which one it is, whatever would have been read
pub fault-inj : {A : Type 0} (x y : Refusal) → ◌≡◌ {A = Res A} (fault x) (fault y) → x ≡ y
fault-inj x y h = cc

pub ret-no-fault : {A X : Type 0} (v : A) (b : List ℕ) (off : ℕ) (x : Refusal) → ret v b off ≡ fault x → X
unfolding ret
ret-no-fault v b off x h = absurd (let z : ◌≡◌ {A = ℕ} 0 1 = cc in omega arith)

-- what follows a reader may be changed for what refuses alike
pub refuse-alike : {A B C : Type 0} (r : R A) (f : A → R B) (g : A → R C) (b : List ℕ) (off : ℕ) (x : Refusal) → (r >>= f) b off ≡ fault x
    → ((v : A) (e : ℕ) → f v b e ≡ fault x → g v b e ≡ fault x) → (r >>= g) b off ≡ fault x
refuse-alike {A} {B} {C} r f g b off x h k = go (bind_is r f b off)
  where
    go : Ran r f b off → (r >>= g) b off ≡ fault x
    go (ran v e p z) = bind-got r g b off v e p ∙ k v e (sym z ∙ h)
    go (stopped y p z) = bind-fault r g b off y p ∙ ap (λ (y : Refusal). fault y) (fault-inj y x (sym z ∙ h))
