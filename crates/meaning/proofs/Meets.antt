-- Demand 2 by combinators: a reader accepts exactly the layouts of its good values.
use Prim.Native.Nat.{ℕ, zero, suc, ◌+◌, ◌%◌, ◌^◌, ◌≤◌, ◌<◌}
use native.Mathlib.Omega.{arith}
use mathlib.Core.Bool.{Bool, true, false}
use mathlib.Core.List.{List, [], ◌∷◌, ◌++◌, append_assoc, append-nil, append_cancel_right}
use Rattle.meaning.proofs.ValueLocal.{padding-local, elements-bounded, elements-full}
use mathlib.Core.Path.{◌≡◌, refl, ap, sym, subst, ◌∙◌}
use lib.ListN.{length, take, drop, length-append, length-drop, length-replicate, take-append-drop, replicate}
use lib.Seq.{drop-append-le, length-take-le, take-append_seam, drop-append_seam, drop-drop, drop-length}
use lib.Dec.{eqb, T, eqb→eq, eqb_refl}
use Rattle.meaning.specs.Reader.{got, fault, R, ret, here, ◌>>=◌, ◌>>◌, check, bytes, within, many}
use Rattle.meaning.proofs.Local.{Local, Bounded, Full, bind_inv, bind-got, bind-fault, bytes-inv, bytes-yes, window-inv, window-got, window-end, ahead-yes, ahead-inv, round, many-inv, Looped, ended, again, many-end, many-round, ret_inv}
use Rattle.meaning.specs.Number.{store, load, gap, zeros}
use Rattle.meaning.proofs.NumberLaws.{Bytes, bytes_take, bytes_drop, length-store, load_store, store-load, load_lt}
use Rattle.meaning.specs.Value.{Layout, ◌▹◌, pad, raw, each, counted, Cond, ok_pad, ok_then, Each, first, OkLength, ok_contents}
use Rattle.meaning.specs.ReadValue.{at4, padding, pair_r, elements, length_r, contents_of, array_of}
use Rattle.meaning.specs.declared.Fault.TheVariants.{NotEnoughBytes, PaddingContainedData}
use Rattle.meaning.specs.declared.Order.{Order}
use Rattle.meaning.specs.declared.Fault.{Fault}
use Rattle.meaning.specs.declared.Refusal.{Refusal}
use Rattle.meaning.proofs.Booleans.{and_left, and_right}

-- the bytes xs stand at off and end at e
pub record At (b : List ℕ) (off : ℕ) (xs : List ℕ) (e : ℕ) : Type 0 where
  pub end : e ≡ off + length xs
  pub is : drop off b ≡ xs ++ drop e b

pub at_split : (b : List ℕ) (off : ℕ) (xs ys : List ℕ) (e : ℕ) → At b off (xs ++ ys) e
    → At b off xs (off + length xs) × At b (off + length xs) ys e
at_split b off xs ys e h =
    let q : drop (off + length xs) b ≡ ys ++ drop e b = sym (drop-drop (length xs) off b) ∙ ap (λ (l : List ℕ). drop (length xs) l) (h.is ∙ append_assoc xs ys (drop e b)) ∙ drop-append_seam xs (ys ++ drop e b) in (
      record { end = refl; is = rw q (h.is ∙ append_assoc xs ys (drop e b)) },
      record { end = h.end ∙ rw length-append (omega arith); is = q },
    )

pub at_join : (b : List ℕ) (off : ℕ) (xs : List ℕ) (m : ℕ) (ys : List ℕ) (e : ℕ) → At b off xs m → At b m ys e → At b off (xs ++ ys) e
at_join b off xs m ys e h k = record {
  end = rw length-append (omega (arith, h.end, k.end));
  is = h.is ∙ ap (λ (l : List ℕ). xs ++ l) k.is ∙ sym (append_assoc xs ys (drop e b));
}

pub at-bytes : (b : List ℕ) (off n : ℕ) → off + n ≤ length b → At b off (take n (drop off b)) (off + n)
at-bytes b off n h = record {
  end = let k : length (take n (drop off b)) ≡ n = length-take-le n (drop off b) (rw length-drop (omega arith)) in omega arith;
  is = rw (← (drop-drop n off b)) (sym (take-append-drop n (drop off b)));
}

pub at_none : (b : List ℕ) (off : ℕ) → At b off [] off
at_none b off = record { end = omega arith; is = refl }

pub at_read : (b : List ℕ) (off : ℕ) (xs : List ℕ) (e : ℕ) → At b off xs e → take (length xs) (drop off b) ≡ xs
at_read b off xs e h = rw h.is (take-append_seam xs (drop e b))

pub record Meets {A : Type 0} (r : R A) (f : A → Layout) (k : A → Cond) : Type 0 where
  pub sound : (b : List ℕ) → Bytes b → (off : ℕ) (v : A) (e : ℕ) → off ≤ length b → r b off ≡ got v e → k v off × At b off (f v off) e
  pub complete : (b : List ℕ) (off : ℕ) (v : A) (e : ℕ) → k v off → At b off (f v off) e → e ≤ length b → r b off ≡ got v e

-- binds with the primitives, both ways
pub here-bind : {B : Type 0} (f : ℕ → R B) (b : List ℕ) (off : ℕ) → (here >>= f) b off ≡ f off b off
unfolding here ◌>>=◌
here-bind f b off = refl

pub check_bind : {B : Type 0} (a : Bool) (k : Fault) (p : ℕ) (f : Unit {0} → R B) (b : List ℕ) (off : ℕ) → T a → (check a k p >>= f) b off ≡ f tt b off
unfolding check ◌>>=◌
check_bind true k p f b off h = refl
check_bind false k p f b off h = absurd h

pub check-bind-inv : {B : Type 0} (a : Bool) (k : Fault) (p : ℕ) (f : Unit {0} → R B) (b : List ℕ) (off : ℕ) (v : B) (e : ℕ) → (check a k p >>= f) b off ≡ got v e
    → T a × (f tt b off ≡ got v e)
unfolding check ◌>>=◌
check-bind-inv true k p f b off v e h = (tt, h)
check-bind-inv false k p f b off v e h = absurd (let z : ◌≡◌ {A = ℕ} 0 1 = cc in omega arith)

-- a check that fails, and what would have followed
pub check-stop : {B : Type 0} (a : Bool) (x : Refusal) (f : Unit {0} → R B) (b : List ℕ) (off : ℕ) → a ≡ false
    → (check a x.fault x.place.0 >>= f) b off ≡ fault x
unfolding check
check-stop a x f b off h = bind-fault (check a x.fault x.place.0) f b off x (rw (h, check))

pub check_inv : (a : Bool) (k : Fault) (p : ℕ) (b : List ℕ) (off : ℕ) (v : Unit {0}) (e : ℕ) → check a k p b off ≡ got v e → T a × (off ≡ e)
unfolding check
check_inv true k p b off v e h = (tt, cc)
check_inv false k p b off v e h = absurd (let z : ◌≡◌ {A = ℕ} 0 1 = cc in omega arith)

pub check-yes : (a : Bool) (k : Fault) (p : ℕ) (b : List ℕ) (off : ℕ) → T a → check a k p b off ≡ got tt off
unfolding check
check-yes true k p b off h = refl
check-yes false k p b off h = absurd h

pub bytes-bind : {B : Type 0} (n p : ℕ) (f : List ℕ → R B) (b : List ℕ) (off : ℕ) (xs : List ℕ) (e : ℕ) → length xs ≡ n → At b off xs e → e ≤ length b
    → (bytes n p >>= f) b off ≡ f xs b e
bytes-bind n p f b off xs e z h l =
    let q : bytes n p b off ≡ got (take n (drop off b)) (off + n) = bytes-yes n p b off (omega (arith, h.end)) in
    let w : take n (drop off b) ≡ xs = subst (λ (m : ℕ). take m (drop off b) ≡ xs) z (at_read b off xs e h) in
    let u : off + n ≡ e = omega (arith, h.end) in
    bind-got (bytes n p) f b off xs e (rw (w, u) at q)

pub bytes-bind-inv : {B : Type 0} (n p : ℕ) (f : List ℕ → R B) (b : List ℕ) (off : ℕ) (v : B) (e : ℕ) → (bytes n p >>= f) b off ≡ got v e
    → (xs : List ℕ) × (m : ℕ) × (length xs ≡ n) × (xs ≡ take n (drop off b)) × At b off xs m × (m ≤ length b) × (f xs b m ≡ got v e)
bytes-bind-inv n p f b off v e h =
    let i = bind_inv (bytes n p) f b off v e h in
    let j = bytes-inv n p b off i.0 i.1 i.2 in
    let l : off + n ≤ length b = j.0 in
    let k : length (take n (drop off b)) ≡ n = length-take-le n (drop off b) (rw length-drop (omega arith)) in
    let a : At b off (take n (drop off b)) (off + n) = at-bytes b off n l in
    let q : f (take n (drop off b)) b (off + n) ≡ got v e = subst (λ (m : ℕ). f (take n (drop off b)) b m ≡ got v e) j.2 (subst (λ (x : List ℕ). f x b i.1 ≡ got v e) j.1 i.3) in
    (take n (drop off b), off + n, k, refl, a, l, q)

-- the bytes that a number was loaded from are those that it is stored as
pub stored : (o : Order) (n : ℕ) (xs : List ℕ) (b : List ℕ) (off : ℕ) → Bytes b → length xs ≡ n → xs ≡ take n (drop off b) → (load o xs < 256 ^ n) × (xs ≡ store o n (load o xs))
stored o n xs b off y l q =
    let bx : Bytes xs = subst Bytes (sym q) (bytes_take n (drop off b) (bytes_drop off b y)) in
    (subst (λ (z : ℕ). load o xs < 256 ^ z) l (load_lt o xs bx), sym (subst (λ (z : ℕ). store o z (load o xs) ≡ xs) l (store-load o xs bx)))

-- padding
pub zeros-replicate : (n : ℕ) → T (zeros (replicate n 0))
unfolding zeros
zeros-replicate zero = tt
zeros-replicate (suc n) = zeros-replicate n

pub zeros-are : (xs : List ℕ) → T (zeros xs) → xs ≡ replicate (length xs) 0
unfolding zeros
zeros-are [] h = refl
zeros-are (c ∷ cs) h =
    let q : c ≡ 0 = eqb→eq c 0 (and_left (eqb c 0) (zeros cs) h) in
    rw q (ap (λ (l : List ℕ). 0 ∷ l) (zeros-are cs (and_right (eqb c 0) (zeros cs) h)))

pub padding-sound : (a : ℕ) (b : List ℕ) (off : ℕ) (v : Unit {0}) (e : ℕ) → padding a b off ≡ got v e → At b off (pad a off) e
unfolding padding pad
padding-sound a b off v e h =
    let f : ℕ → R (Unit {0}) = λ p. bytes (gap a p) p >>= λ zs. check (zeros zs) PaddingContainedData (at4 p zs) in
    let i = bytes-bind-inv (gap a off) off (λ zs. check (zeros zs) PaddingContainedData (at4 off zs)) b off v e (sym (here-bind f b off) ∙ h) in
    let j = check_inv (zeros i.0) PaddingContainedData (at4 off i.0) b i.1 v e i.6 in
    let z : i.0 ≡ replicate (gap a off) 0 = zeros-are i.0 j.0 ∙ ap (λ (n : ℕ). replicate n 0) i.2 in
    subst (λ (x : List ℕ). At b off x e) z (subst (λ (m : ℕ). At b off i.0 m) j.1 i.4)

pub padding-complete : (a : ℕ) (b : List ℕ) (off : ℕ) (e : ℕ) → At b off (pad a off) e → e ≤ length b → padding a b off ≡ got tt e
unfolding padding pad
padding-complete a b off e h l =
    let f : ℕ → R (Unit {0}) = λ p. bytes (gap a p) p >>= λ zs. check (zeros zs) PaddingContainedData (at4 p zs) in
    here-bind f b off
    ∙ bytes-bind (gap a off) off (λ zs. check (zeros zs) PaddingContainedData (at4 off zs)) b off (replicate (gap a off) 0) e (length-replicate (gap a off) 0) h l
    ∙ check-yes (zeros (replicate (gap a off) 0)) PaddingContainedData (at4 off (replicate (gap a off) 0)) b e (zeros-replicate (gap a off))

pub length-pad : (a off : ℕ) → length (pad a off) ≡ gap a off
unfolding pad
length-pad a off = length-replicate (gap a off) 0

pub at-then : (b : List ℕ) (off : ℕ) (f g : Layout) (m e : ℕ) → At b off (f off) m → At b m (g m) e → At b off ((f ▹ g) off) e
unfolding ◌▹◌
at-then b off f g m e h k = at_join b off (f off) m (g (off + length (f off))) e h (subst (λ (j : ℕ). At b m (g j) e) h.end k)

pub then_at : (b : List ℕ) (off : ℕ) (f g : Layout) (e : ℕ) → At b off ((f ▹ g) off) e
    → At b off (f off) (off + length (f off)) × At b (off + length (f off)) (g (off + length (f off))) e
unfolding ◌▹◌
then_at b off f g e h = at_split b off (f off) (g (off + length (f off))) e h

-- the first part of two ends no later than both
pub mid_le : (b : List ℕ) (m : ℕ) (xs : List ℕ) (e : ℕ) → At b m xs e → e ≤ length b → m ≤ length b
mid_le b m xs e h l = omega (arith, h.end)

module _ {A : Type 0} (a : ℕ) (r : R A) (f : A → Layout) (k : A → Cond) (h : Meets r f k) (pb : Bounded (padding a)) where
  padded-sound : (b : List ℕ) → Bytes b → (off : ℕ) (v : A) (e : ℕ) → off ≤ length b → (padding a >> r) b off ≡ got v e → ok_pad a (k v) off × At b off ((pad a ▹ f v) off) e
  padded-sound b y off v e l q =
      let i = bind_inv (padding a) (λ z. r) b off v e q in
      let p = padding-sound a b off i.0 i.1 i.2 in
      let j = h.sound b y i.1 v e (pb b off i.0 i.1 l i.2).1 i.3 in
      let m : i.1 ≡ off + gap a off = p.end ∙ ap (λ (n : ℕ). off + n) (length-pad a off) in
      (subst (k v) m j.0, at-then b off (pad a) (f v) i.1 e p j.1)

  padded-complete : (b : List ℕ) (off : ℕ) (v : A) (e : ℕ) → ok_pad a (k v) off → At b off ((pad a ▹ f v) off) e → e ≤ length b → (padding a >> r) b off ≡ got v e
  padded-complete b off v e c t l =
      let s = then_at b off (pad a) (f v) e t in
      let m : off + gap a off ≡ off + length (pad a off) = ap (λ (n : ℕ). off + n) (sym (length-pad a off)) in
      bind-got (padding a) (λ z. r) b off tt (off + length (pad a off)) (padding-complete a b off (off + length (pad a off)) s.0 (mid_le b _ _ e s.1 l))
      ∙ h.complete b (off + length (pad a off)) v e (subst (k v) m c) s.1 l

  pub padded : Meets (padding a >> r) (λ v. pad a ▹ f v) (λ v. ok_pad a (k v))
  padded = record { sound = padded-sound; complete = padded-complete }

module _ {A B : Type 0} (r : R A) (s : R B) (f : A → Layout) (g : B → Layout) (k : A → Cond) (l : B → Cond) (hr : Meets r f k) (hs : Meets s g l) (br : Bounded r) where
  pair-sound : (b : List ℕ) → Bytes b → (off : ℕ) (v : A × B) (e : ℕ) → off ≤ length b → pair_r r s b off ≡ got v e
      → ok_then (f v.0) (k v.0) (l v.1) off × At b off ((f v.0 ▹ g v.1) off) e
  unfolding pair_r
  pair-sound b y off v e n q =
      let i = bind_inv r (λ x. s >>= λ z. ret (x, z)) b off v e q in
      let j = bind_inv s (λ z. ret (i.0, z)) b i.1 v e i.3 in
      let w = ret_inv (i.0, j.0) b j.1 v e j.3 in
      let p = hr.sound b y off i.0 i.1 n i.2 in
      let t = hs.sound b y i.1 j.0 j.1 (br b off i.0 i.1 n i.2).1 j.2 in
      let t1 : At b i.1 (g j.0 i.1) e = subst (λ (x : ℕ). At b i.1 (g j.0 i.1) x) w.1 t.1 in
      let res : ok_then (f i.0) (k i.0) (l j.0) off × At b off ((f i.0 ▹ g j.0) off) e
      = ((p.0, subst (l j.0) p.1.end t.0), at-then b off (f i.0) (g j.0) i.1 e p.1 t1) in
      subst (λ (x : A × B). ok_then (f x.0) (k x.0) (l x.1) off × At b off ((f x.0 ▹ g x.1) off) e) w.0 res

  pair-complete : (b : List ℕ) (off : ℕ) (v : A × B) (e : ℕ) → ok_then (f v.0) (k v.0) (l v.1) off → At b off ((f v.0 ▹ g v.1) off) e → e ≤ length b
      → pair_r r s b off ≡ got v e
  unfolding pair_r ret
  pair-complete b off v e c t n =
      let p = then_at b off (f v.0) (g v.1) e t in
      let m : ℕ = off + length (f v.0 off) in
      bind-got r (λ x. s >>= λ z. ret (x, z)) b off v.0 m (hr.complete b off v.0 m c.0 p.0 (mid_le b _ _ e p.1 n))
      ∙ bind-got s (λ z. ret (v.0, z)) b m v.1 e (hs.complete b m v.1 e c.1 p.1 n)

  pub paired : Meets (pair_r r s) (λ v. f v.0 ▹ g v.1) (λ v. ok_then (f v.0) (k v.0) (l v.1))
  paired = record { sound = pair-sound; complete = pair-complete }

-- loops
module _ {A : Type 0} (r : R A) (f : A → Layout) (k : A → Cond) (h : Meets r f k) (br : Bounded r) where
  pub many-sound : (n : ℕ) (b : List ℕ) → Bytes b → (off : ℕ) (vs : List A) (e : ℕ) → off ≤ length b → many n r b off ≡ got vs e
      → Each f k vs off × At b off (each f vs off) e
  unfolding each Each
  many-sound n b y off vs e l q = go n off vs e l (many-inv n r b off vs e q)
    where
      none' : (off : ℕ) (vs : List A) (e : ℕ) → vs ≡ [] → e ≡ off → Each f k vs off × At b off (each f vs off) e
      none' off vs e p z = subst (λ (x : List A). Each f k x off × At b off (each f x off) e) (sym p) (tt, subst (λ (x : ℕ). At b off [] x) (sym z) (at_none b off))

      one' : (n : ℕ) (off : ℕ) (vs : List A) (e : ℕ) → off ≤ length b → round n r b off ≡ got vs e
          → ((off : ℕ) (vs : List A) (e : ℕ) → off ≤ length b → many n r b off ≡ got vs e → Each f k vs off × At b off (each f vs off) e)
          → Each f k vs off × At b off (each f vs off) e
      one' n off vs e l q ih =
          let i = bind_inv r (λ v. many n r >>= λ ws. ret (v ∷ ws)) b off vs e q in
          let j = bind_inv (many n r) (λ ws. ret (i.0 ∷ ws)) b i.1 vs e i.3 in
          let w = ret_inv (i.0 ∷ j.0) b j.1 vs e j.3 in
          let p = h.sound b y off i.0 i.1 l i.2 in
          let t = ih i.1 j.0 j.1 (br b off i.0 i.1 l i.2).1 j.2 in
          let t1 : At b i.1 (each f j.0 i.1) e = subst (λ (x : ℕ). At b i.1 (each f j.0 i.1) x) w.1 t.1 in
          let res : Each f k (i.0 ∷ j.0) off × At b off (each f (i.0 ∷ j.0) off) e
          = ((p.0, subst (Each f k j.0) p.1.end t.0), at-then b off (f i.0) (each f j.0) i.1 e p.1 t1) in
          subst (λ (x : List A). Each f k x off × At b off (each f x off) e) w.0 res

      go : (n off : ℕ) (vs : List A) (e : ℕ) → off ≤ length b → Looped n r b off vs e → Each f k vs off × At b off (each f vs off) e
      go zero off vs e l (ended z p w) = none' off vs e p w
      go zero off vs e l (again m z p w) = absurd (omega arith)
      go (suc n) off vs e l (ended z p w) = none' off vs e p w
      go (suc n) off vs e l (again m z p w) =
          let z1 : m ≡ n = omega arith in
          one' n off vs e l (subst (λ (j : ℕ). round j r b off ≡ got vs e) z1 w) (λ off' vs' e' l' q'. go n off' vs' e' l' (many-inv n r b off' vs' e' q'))

  pub many-complete : (ne : (v : A) (off : ℕ) → 1 ≤ length (f v off)) (vs : List A) (n : ℕ) (b : List ℕ) (off e : ℕ) → Each f k vs off → At b off (each f vs off) e
      → e ≡ length b → e ≤ off + n → many n r b off ≡ got vs e
  unfolding each Each ret
  many-complete ne [] n b off e c t l m =
      let z : e ≡ off = omega (arith, t.end) in
      many-end n r b off (omega arith) ∙ ap (λ (x : ℕ). got [] x) (sym z)
  many-complete ne (v ∷ vs) zero b off e c t l m =
      let p = then_at b off (f v) (each f vs) e t in
      absurd (omega (arith, ne v off, p.1.end))
  many-complete ne (v ∷ vs) (suc n) b off e c t l m =
      let p = then_at b off (f v) (each f vs) e t in
      let g : off + 1 ≤ off + length (f v off) = omega (arith, ne v off) in
      let u : off + length (f v off) ≤ length b = omega (arith, p.1.end) in
      many-round n r b off (omega arith)
      ∙ bind-got r (λ x. many n r >>= λ ws. ret (x ∷ ws)) b off v (off + length (f v off)) (h.complete b off v (off + length (f v off)) c.0 p.0 u)
      ∙ bind-got (many n r) (λ ws. ret (v ∷ ws)) b (off + length (f v off)) vs e (many-complete ne vs n b (off + length (f v off)) e c.1 p.1 l (omega arith))

-- what stands in the first m bytes stands in the whole
pub at-widen : (b : List ℕ) (off m : ℕ) (xs : List ℕ) (e : ℕ) → m ≤ length b → off ≤ m → e ≡ m → At (take m b) off xs e → At b off xs e
at-widen b off m xs e h l z t =
    let n : length (take m b) ≡ m = length-take-le m b h in
    let d : drop e (take m b) ≡ [] = rw z (subst (λ (j : ℕ). drop j (take m b) ≡ []) n (drop-length (take m b))) in
    let s : drop off (take m b) ≡ xs = t.is ∙ ap (λ (x : List ℕ). xs ++ x) d ∙ append-nil xs in
    let w : drop off b ≡ drop off (take m b ++ drop m b) = rw take-append-drop in
    record { end = t.end; is = w ∙ drop-append-le off (take m b) (drop m b) (rw n l) ∙ ap (λ (x : List ℕ). x ++ drop m b) s ∙ ap (λ (j : ℕ). xs ++ drop j b) (sym z) }

pub at-narrow : (b : List ℕ) (off m : ℕ) (xs : List ℕ) → m ≤ length b → At b off xs m → At (take m b) off xs m
at-narrow b off m xs h t =
    let n : length (take m b) ≡ m = length-take-le m b h in
    let l : off ≤ m = omega (arith, t.end) in
    let d : drop m (take m b) ≡ [] = subst (λ (j : ℕ). drop j (take m b) ≡ []) n (drop-length (take m b)) in
    let w : drop off (take m b) ++ drop m b ≡ xs ++ drop m b = sym (drop-append-le off (take m b) (drop m b) (rw n l)) ∙ ap (λ (x : List ℕ). drop off x) (take-append-drop m b) ∙ t.is in
    record { end = t.end; is = append_cancel_right (drop off (take m b)) xs (drop m b) w ∙ sym (append-nil xs) ∙ ap (λ (x : List ℕ). xs ++ x) (sym d) }

-- length fields
length-sound : (o : Order) (b : List ℕ) → Bytes b → (off n e : ℕ) → length_r o b off ≡ got n e → OkLength n × At b off (store o 4 n) e × (e ≤ length b)
unfolding length_r OkLength
length-sound o b y off n e q =
    let i = bytes-bind-inv 4 off (λ x. ret (load o x)) b off n e (sym (here-bind (λ p. bytes 4 p >>= λ x. ret (load o x)) b off) ∙ q) in
    let r = ret_inv (load o i.0) b i.1 n e i.6 in
    let s = stored o 4 i.0 b off y i.2 i.3 in (
      subst (λ (z : ℕ). z < 256 ^ 4) r.0 s.0,
      subst (λ (z : ℕ). At b off (store o 4 n) z) r.1 (subst (λ (z : List ℕ). At b off z i.1) (s.1 ∙ ap (λ (z : ℕ). store o 4 z) r.0) i.4),
      subst (λ (z : ℕ). z ≤ length b) r.1 i.5,
    )

length-complete : (o : Order) (b : List ℕ) (off n e : ℕ) → OkLength n → At b off (store o 4 n) e → e ≤ length b → length_r o b off ≡ got n e
unfolding length_r OkLength ret
length-complete o b off n e k t l =
    here-bind (λ p. bytes 4 p >>= λ x. ret (load o x)) b off
    ∙ bytes-bind 4 off (λ x. ret (load o x)) b off (store o 4 n) e (length-store o 4 n) t l
    ∙ ap (λ (z : ℕ). got z e) (load_store o 4 n k)

-- such a length fits its field
pub length-lt : (n : ℕ) → OkLength n → n < 256 ^ 4
unfolding OkLength
length-lt n h = h

pub lengths : (o : Order) → Meets (length_r o) (λ n. raw (store o 4 n)) (λ n off. OkLength n)
lengths o = record {
  sound = λ b y off n e l q. (let s = length-sound o b y off n e q in (s.0, s.1));
  complete = λ b off n e k t l. length-complete o b off n e k t l;
}

-- what may stand in an array: c n reads n bytes whole, and accepts there exactly the layouts of its good values
pub record Fills {A : Type 0} (a : ℕ) (c : ℕ → R A) (f : A → Layout) (k : A → Cond) : Type 0 where
  pub bounded : (n : ℕ) → Bounded (c n)
  pub full : (n : ℕ) → Full (c n)
  pub sound : (n : ℕ) (b : List ℕ) → Bytes b → (off : ℕ) (v : A) (e : ℕ) → off ≤ length b → c n b off ≡ got v e
      → k v off × At b off (f v off) e
  pub complete : (b : List ℕ) (p : ℕ) (v : A) (e : ℕ) → k v (first a p) → At b (first a p) (f v (first a p)) e → e ≡ length b
      → c (length (f v (first a p))) b (first a p) ≡ got v e

-- the head of an array, over any such contents
module _ {A : Type 0} (o : Order) (a : ℕ) (c : ℕ → R A) (f : A → Layout) (k : A → Cond) (h : Fills a c f k) where
  -- after the length field n, which ends at m
  contents-sound : (b : List ℕ) → Bytes b → (m n : ℕ) (v : A) (e : ℕ) → m ≤ length b → contents_of a c n b m ≡ got v e
      → k v (m + gap a m) × (length (f v (m + gap a m)) ≡ n) × At b m ((pad a ▹ f v) m) e
  contents-sound b y m n v e l q =
      let j = ahead-inv n (padding a >> within n (c n)) b m v e q in
      let p = bind_inv (padding a) (λ z. within n (c n)) b m v e j.1 in
      let at : ℕ = p.1 in
      let pa = padding-sound a b m p.0 at p.2 in
      let t = window-inv _ _ n (c n) b at v e p.3 in
      let en : e ≡ at + n = window-end _ _ n (c n) (h.bounded n) (h.full n) b at v e p.3 in
      let cl : length (take (at + n) b) ≡ at + n = length-take-le (at + n) b t.0 in
      let s = h.sound n (take (at + n) b) (bytes_take (at + n) b y) at v e (rw cl (omega arith)) t.1 in
      let s1 : At b at (f v at) e = at-widen b at (at + n) (f v at) e t.0 (omega arith) en s.1 in
      let fi : at ≡ m + gap a m = pa.end ∙ ap (λ (z : ℕ). m + z) (length-pad a m) in
      let len : length (f v at) ≡ n = omega (arith, s1.end) in
      (subst (k v) fi s.0, subst (λ (z : ℕ). length (f v z) ≡ n) fi len, at-then b m (pad a) (f v) at e pa s1)

  counted-sound : (b : List ℕ) → Bytes b → (off : ℕ) (v : A) (e : ℕ) → off ≤ length b → (length_r o >>= λ n. contents_of a c n) b off ≡ got v e
      → ok_contents a (f v) (k v) off × At b off (counted o a (f v) off) e
  unfolding counted
  counted-sound b y off v e l q = go (bind_inv (length_r o) (λ n. contents_of a c n) b off v e q)
    where
      go : (n : ℕ) × (m : ℕ) × (length_r o b off ≡ got n m) × (contents_of a c n b m ≡ got v e)
          → ok_contents a (f v) (k v) off × At b off (counted o a (f v) off) e
      go i =
          let ls = length-sound o b y off i.0 i.1 i.2 in
          let m4 : i.1 ≡ off + 4 = ls.1.end ∙ ap (λ (z : ℕ). off + z) (length-store o 4 i.0) in
          let bs = contents-sound b y i.1 i.0 v e ls.2 i.3 in
          let len : i.0 ≡ length (f v (first a off)) = sym bs.1 ∙ ap (λ (z : ℕ). length (f v (z + gap a z))) m4 in (
            (subst (λ (z : ℕ). k v (z + gap a z)) m4 bs.0, subst OkLength len ls.0),
            at_join b off (store o 4 (length (f v (first a off)))) i.1 ((pad a ▹ f v) (off + 4)) e
                (subst (λ (z : ℕ). At b off (store o 4 z) i.1) len ls.1)
                (subst (λ (z : ℕ). At b i.1 ((pad a ▹ f v) z) e) m4 bs.2),
          )

  contents-complete : (b : List ℕ) (off : ℕ) (v : A) (e : ℕ) → k v (first a off) → At b (off + 4) ((pad a ▹ f v) (off + 4)) e → e ≤ length b
      → contents_of a c (length (f v (first a off))) b (off + 4) ≡ got v e
  contents-complete b off v e g t l =
      let at : ℕ = first a off in
      let n : ℕ = length (f v at) in
      let s2 = then_at b (off + 4) (pad a) (f v) e t in
      let fi : off + 4 + length (pad a (off + 4)) ≡ at = ap (λ (z : ℕ). off + 4 + z) (length-pad a (off + 4)) in
      let t3 : At b (off + 4) (pad a (off + 4)) at = subst (λ (z : ℕ). At b (off + 4) (pad a (off + 4)) z) fi s2.0 in
      let t4 : At b at (f v at) e = subst (λ (z : ℕ). At b z (f v z) e) fi s2.1 in
      let en : e ≡ at + n = t4.end in
      let le4 : off + 4 ≤ at = omega (arith, t3.end) in
      let u : at + n ≤ length b = omega arith in
      let t5 : At b at (f v at) (at + n) = subst (λ (z : ℕ). At b at (f v at) z) en t4 in
      let t6 : At (take (at + n) b) at (f v at) (at + n) = at-narrow b at (at + n) (f v at) u t5 in
      let w : c n (take (at + n) b) at ≡ got v (at + n) = h.complete (take (at + n) b) off v (at + n) g t6 (sym (length-take-le (at + n) b u)) in
      ahead-yes n (padding a >> within n (c n)) b (off + 4) (omega arith)
      ∙ bind-got (padding a) (λ z. within n (c n)) b (off + 4) tt at (padding-complete a b (off + 4) at t3 (omega arith))
      ∙ window-got _ _ n (c n) b at v (at + n) u w ∙ ap (λ (z : ℕ). got v z) (sym en)

  counted-complete : (b : List ℕ) (off : ℕ) (v : A) (e : ℕ) → ok_contents a (f v) (k v) off → At b off (counted o a (f v) off) e → e ≤ length b
      → (length_r o >>= λ n. contents_of a c n) b off ≡ got v e
  unfolding counted
  counted-complete b off v e g t l =
      let n : ℕ = length (f v (first a off)) in
      let sp = at_split b off (store o 4 n) ((pad a ▹ f v) (off + 4)) e t in
      let m4 : off + length (store o 4 n) ≡ off + 4 = ap (λ (z : ℕ). off + z) (length-store o 4 n) in
      let t1 : At b off (store o 4 n) (off + 4) = subst (λ (z : ℕ). At b off (store o 4 n) z) m4 sp.0 in
      let t2 : At b (off + 4) ((pad a ▹ f v) (off + 4)) e = subst (λ (z : ℕ). At b z ((pad a ▹ f v) (off + 4)) e) m4 sp.1 in
      bind-got (length_r o) (λ n. contents_of a c n) b off n (off + 4) (length-complete o b off n (off + 4) g.1 t1 (mid_le b _ _ e t2 l))
      ∙ contents-complete b off v e g.0 t2 l

  pub headed : Meets (array_of o a c) (λ v. pad 4 ▹ counted o a (f v)) (λ v. ok_pad 4 (ok_contents a (f v) (k v)))
  unfolding array_of
  headed = padded 4 (length_r o >>= λ n. contents_of a c n) (λ v. counted o a (f v)) (λ v. ok_contents a (f v) (k v))
      (record { sound = counted-sound; complete = counted-complete }) (padding-local 4).bound

-- the elements of an array fill it
module _ {A : Type 0} (a w : ℕ) (r : R A) (f : A → Layout) (k : A → Cond) (h : Meets r f k) (lr : Local r)
    (ne : (v : A) (off : ℕ) → 1 ≤ length (f v off)) (wh : (vs : List A) (off : ℕ) → length (each f vs (first a off)) % w ≡ 0) where
  abbrev tested : ℕ → ℕ → R (List A)
  tested n p = check (eqb (n % w) 0) NotEnoughBytes p >> many n r

  elements-sound : (n : ℕ) (b : List ℕ) → Bytes b → (off : ℕ) (vs : List A) (e : ℕ) → off ≤ length b → elements n w r b off ≡ got vs e
      → Each f k vs off × At b off (each f vs off) e
  unfolding elements
  elements-sound n b y off vs e l q =
      let g = check-bind-inv (eqb (n % w) 0) NotEnoughBytes off (λ z. many n r) b off vs e (sym (here-bind (tested n) b off) ∙ q) in
      many-sound r f k h lr.bound n b y off vs e l g.1

  elements-complete : (b : List ℕ) (p : ℕ) (vs : List A) (e : ℕ) → Each f k vs (first a p) → At b (first a p) (each f vs (first a p)) e → e ≡ length b
      → elements (length (each f vs (first a p))) w r b (first a p) ≡ got vs e
  unfolding elements
  elements-complete b p vs e g t l =
      let n : ℕ = length (each f vs (first a p)) in
      here-bind (tested n) b (first a p)
      ∙ check_bind (eqb (n % w) 0) NotEnoughBytes (first a p) (λ z. many n r) b (first a p) (rw (wh vs p) (eqb_refl 0))
      ∙ many-complete r f k h lr.bound ne vs n b (first a p) e g t l (omega (arith, t.end))

  pub elements-fill : Fills a (λ n. elements n w r) (λ vs. each f vs) (λ vs. Each f k vs)
  elements-fill = record {
    bounded = λ n. elements-bounded n w r lr;
    full = λ n. elements-full n w r lr;
    sound = elements-sound;
    complete = elements-complete;
  }
