-- Arrays and dicts: what their head says of the rest, whatever is done with the contents. The head is read once, and the contents then lie
-- between two places.
use Prim.Native.Nat.{ℕ, ◌+◌, ◌%◌, ◌≤◌}
use native.Mathlib.Omega.{arith}
use mathlib.Core.Bool.{Bool}
use mathlib.Core.List.{List}
use mathlib.Core.Path.{◌≡◌, refl, ap, sym, subst, ◌∙◌}
use lib.ListN.{length, take, drop}
use lib.Dec.{leb, eqb}
use borrow.Author.Tests.{eq-eqb, ne_eqb}
use Rattle.meaning.specs.declared.Order.{Order}
use Rattle.meaning.specs.declared.Part.{Part}
use Rattle.meaning.specs.declared.Refusal.{Refusal}
use Rattle.meaning.specs.declared.Place.{Place}
use Rattle.meaning.specs.declared.Length.{Length}
use Rattle.meaning.specs.declared.Fault.TheVariants.{NotEnoughBytes, NotEnoughBytesForCollection}
use Rattle.meaning.specs.Faults.{refusal}
use Rattle.meaning.specs.Reader.{Res, got, fault, stop, R, ret, ◌>>=◌, ◌>>◌, check, bytes, ahead, within, many}
use Rattle.meaning.specs.Number.{load}
use Rattle.meaning.specs.ReadValue.{padding, elements, length_r, contents_of, array_of}
use Rattle.meaning.proofs.Local.{Cmp, is_le, is_gt, cmp, Ran, ran, stopped, bind_is, bind-got, bind-fault, bind_inv, ret_inv, ahead-yes, ahead-no, ahead-inv, within-yes, within-no, fault-inj, ret-no-fault, refuse-alike}
use Rattle.meaning.proofs.ValueLocal.{padding-local}
use Rattle.meaning.proofs.Meets.{here-bind, check_bind, bytes-bind-inv}
use Rattle.std.specs.Prelude.{Ok, Err}
use Rattle.validate_raw.specs.Head.{lying_r, head_r, inside_if, opened_of}

-- the parts of a head that was read: after the first padding, after the length, at the first element
pub record Head (o : Order) (a : ℕ) (b : List ℕ) (off n f : ℕ) : Type 0 where
  pub from : ℕ
  pub past : ℕ
  pub padded : padding 4 b off ≡ got tt from
  pub counts : length_r o b from ≡ got n past
  pub fits : past + n ≤ length b
  pub first : padding a b past ≡ got tt f

module _ (o : Order) (a : ℕ) (b : List ℕ) (off : ℕ) where
  abbrev rest : ℕ → R ℕ
  rest n = lying_r a n

  pub head-inv : (n f : ℕ) → head_r o a b off ≡ got n f → Head o a b off n f
  unfolding head_r lying_r
  head-inv n f h =
      let i = bind_inv (padding 4) (λ z. length_r o >>= rest) b off n f h in
      let j = bind_inv (length_r o) rest b i.1 n f i.3 in
      let k = bind_inv (ahead j.0 (padding a)) (λ z. ret j.0) b j.1 n f j.3 in
      let l = ret_inv j.0 b k.1 n f k.3 in
      let m = ahead-inv j.0 (padding a) b j.1 k.0 k.1 k.2 in
      record {
        from = i.1;
        past = j.1;
        padded = i.2;
        counts = subst (λ (x : ℕ). length_r o b i.1 ≡ got x j.1) l.0 j.2;
        fits = subst (λ (x : ℕ). j.1 + x ≤ length b) l.0 m.0;
        first = subst (λ (x : ℕ). padding a b j.1 ≡ got tt x) l.1 m.1;
      }

  -- a head that is read leads to the contents
  pub array-opens : {A : Type 0} (c : ℕ → R A) (n f : ℕ) → head_r o a b off ≡ got n f → array_of o a c b off ≡ within n (c n) b f
  unfolding array_of
  array-opens c n f h =
      let i = head-inv n f h in
      bind-got (padding 4) (λ z. length_r o >>= contents_of a c) b off tt i.from i.padded
      ∙ bind-got (length_r o) (contents_of a c) b i.from n i.past i.counts
      ∙ ahead-yes n (padding a >> within n (c n)) b i.past i.fits
      ∙ bind-got (padding a) (λ z. within n (c n)) b i.past tt f i.first

  -- a head that is refused refuses the array
  pub head-fault : {A : Type 0} (c : ℕ → R A) (x : Refusal) → head_r o a b off ≡ fault x → array_of o a c b off ≡ fault x
  unfolding array_of head_r lying_r
  head-fault {A} c x h =
      refuse-alike (padding 4) (λ z. length_r o >>= rest) (λ z. length_r o >>= contents_of a c) b off x h
      (λ z p k. refuse-alike (length_r o) rest (contents_of a c) b p x k (λ n q l. inner n q l (cmp (q + n) (length b))))
    where
      inner : (n q : ℕ) → rest n b q ≡ fault x → Cmp (q + n) (length b) → contents_of a c n b q ≡ fault x
      inner n q k (is_gt t l) =
          let e = sym (bind-fault (ahead n (padding a)) (λ z. ret n) b q (refusal NotEnoughBytesForCollection q) (ahead-no n (padding a) b q l)) ∙ k in
          ahead-no n (padding a >> within n (c n)) b q l ∙ ap (λ (y : Refusal). fault y) (fault-inj (refusal NotEnoughBytesForCollection q) x e)
      inner n q k (is_le t l) =
          let e : padding a b q ≡ fault x = padded-fault (bind_is (ahead n (padding a)) (λ z. ret n) b q) in
          ahead-yes n (padding a >> within n (c n)) b q l ∙ bind-fault (padding a) (λ z. within n (c n)) b q x e
        where
          padded-fault : Ran (ahead n (padding a)) (λ z. ret n) b q → padding a b q ≡ fault x
          padded-fault (ran v e p z) = ret-no-fault n b e x (sym z ∙ k)
          padded-fault (stopped y p z) = sym (ahead-yes n (padding a) b q l) ∙ p ∙ ap (λ (y : Refusal). fault y) (fault-inj y x (sym z ∙ k))

-- a length field takes four bytes
pub length_r-past : (o : Order) (b : List ℕ) (off n e : ℕ) → length_r o b off ≡ got n e → (off + 4 ≡ e) × (n ≡ load o (take 4 (drop off b)))
unfolding length_r
length_r-past o b off n e h =
    let i = bytes-bind-inv 4 off (λ l. ret (load o l)) b off n e (sym (here-bind (λ p. bytes 4 p >>= λ l. ret (load o l)) b off) ∙ h) in
    let j = ret_inv (load o i.0) b i.1 n e i.6 in
    (omega (arith, i.4.end, i.2, j.1), sym j.0 ∙ ap (load o) i.3)

-- where the contents lie, once they are seen to fit: b is all that is seen
module _ (o : Order) (a : ℕ) (b : List ℕ) (off : ℕ) where
  pub record Contents (f n : ℕ) : Type 0 where
    pub head : head_r o a b off ≡ got n f
    pub within : f + n ≤ length b

  pub inside-inv : (p : Part) → opened_of (length b) (head_r o a b off) ≡ Ok p → Contents p.0.0 p.1.0
  inside-inv p h = go (head_r o a b off) refl h
    where
      by : (m g : ℕ) → head_r o a b off ≡ got m g → Cmp (g + m) (length b) → inside_if (leb (g + m) (length b)) g m ≡ Ok p → Contents p.0.0 p.1.0
      by m g q (is_le t l) k =
          let e : Ok (record { 0 = record { 0 = g }; 1 = record { 0 = m } }) ≡ Ok p = sym (ap (λ (x : Bool). inside_if x g m) t) ∙ k in
          let u : record { 0 = record { 0 = g }; 1 = record { 0 = m } } ≡ p = cc in
          subst (λ (x : Part). Contents x.0.0 x.1.0) u (record { head = q; within = l })
      by m g q (is_gt t l) k =
          let e : Err (refusal NotEnoughBytesForCollection g) ≡ Ok p = sym (ap (λ (x : Bool). inside_if x g m) t) ∙ k in
          absurd (let z : ◌≡◌ {A = ℕ} 0 1 = cc in omega arith)

      go : (x : Res ℕ) → head_r o a b off ≡ x → opened_of (length b) x ≡ Ok p → Contents p.0.0 p.1.0
      go (got m g) q k = by m g q (cmp (g + m) (length b)) k
      go (fault y) q k = absurd (let z : ◌≡◌ {A = ℕ} 0 1 = cc in omega arith)

  -- an array whose contents are n bytes from f on is those contents, which see nothing beyond their end
  pub array-inside : {A : Type 0} (c : ℕ → R A) (p : Part) → opened_of (length b) (head_r o a b off) ≡ Ok p
      → array_of o a c b off ≡ c p.1.0 (take (p.0.0 + p.1.0) b) p.0.0
  array-inside c p h =
      let i = inside-inv p h in
      array-opens o a b off c p.1.0 p.0.0 i.head
      ∙ within-yes p.1.0 (c p.1.0) b p.0.0 i.within

  pub array-shut : {A : Type 0} (c : ℕ → R A) (x : Refusal) → opened_of (length b) (head_r o a b off) ≡ Err x → array_of o a c b off ≡ fault x
  array-shut {A} c x h = go (head_r o a b off) refl h
    where
      by : (n g : ℕ) → head_r o a b off ≡ got n g → Cmp (g + n) (length b) → inside_if (leb (g + n) (length b)) g n ≡ Err x → array_of o a c b off ≡ fault x
      by n g q (is_le t l) k =
          let e : Ok (record { 0 = record { 0 = g }; 1 = record { 0 = n } }) ≡ Err x = sym (ap (λ (z : Bool). inside_if z g n) t) ∙ k in
          absurd (let z : ◌≡◌ {A = ℕ} 0 1 = cc in omega arith)
      by n g q (is_gt t l) k =
          let e : Err (refusal NotEnoughBytesForCollection g) ≡ Err x = sym (ap (λ (z : Bool). inside_if z g n) t) ∙ k in
          let u : refusal NotEnoughBytesForCollection g ≡ x = cc in
          array-opens o a b off c n g q ∙ within-no n (c n) b g l ∙ ap (λ (y : Refusal). fault y) u

      go : (y : Res ℕ) → head_r o a b off ≡ y → opened_of (length b) y ≡ Err x → array_of o a c b off ≡ fault x
      go (got n g) q k = by n g q (cmp (g + n) (length b)) k
      go (fault y) q k = let u : y ≡ x = cc in head-fault o a b off c x (q ∙ ap (λ (z : Refusal). fault z) u)

  -- the contents lie after the length field
  pub inside-after : (p : Part) → off ≤ length b → opened_of (length b) (head_r o a b off) ≡ Ok p → off + 4 ≤ p.0.0
  inside-after p l h =
      let i = head-inv o a b off p.1.0 p.0.0 (inside-inv p h).head in
      let pad = (padding-local 4).bound b off tt i.from l i.padded in
      let r = length_r-past o b i.from p.1.0 i.past i.counts in
      let u = (padding-local a).bound b i.past tt p.0.0 (omega (arith, i.fits)) i.first in
      omega arith

-- the elements between two places
pub elements-whole : {A : Type 0} (n w : ℕ) (r : R A) (b : List ℕ) (f : ℕ) → n % w ≡ 0 → elements n w r b f ≡ many n r b f
unfolding elements
elements-whole n w r b f e =
    here-bind (λ p. check (eqb (n % w) 0) NotEnoughBytes p >> many n r) b f
    ∙ check_bind (eqb (n % w) 0) NotEnoughBytes f (λ z. many n r) b f (rw (eq-eqb (n % w) 0 e) tt)

pub elements-ragged : {A : Type 0} (n w : ℕ) (r : R A) (b : List ℕ) (f : ℕ) → (n % w ≡ 0 → ⊥) → elements n w r b f ≡ stop NotEnoughBytes f
unfolding elements check
elements-ragged n w r b f e =
    here-bind (λ p. check (eqb (n % w) 0) NotEnoughBytes p >> many n r) b f
    ∙ bind-fault (check (eqb (n % w) 0) NotEnoughBytes f) (λ z. many n r) b f (refusal NotEnoughBytes f) (rw (ne_eqb (n % w) 0 e, check))
