-- Demand 2 for every value.
use Prim.Native.Nat.{ℕ, zero, suc, ◌+◌, ◌%◌, ◌≤◌}
use native.Mathlib.Omega.{arith}
use native.Mathlib.Nat.{add-mod_right, add-mod_left}
use mathlib.Core.Bool.{Bool, true, false, ◌&&◌}
use mathlib.Core.List.{List, [], ◌∷◌, append-nil}
use mathlib.Core.Path.{◌≡◌, refl, ap, sym, subst, ◌∙◌}
use lib.ListN.{length, take, drop, length-append}
use lib.Dec.{T, lit≤}
use Rattle.meaning.proofs.Bases.{by_size}
use Rattle.meaning.specs.Reader.{got, R, ret, here, fail, ◌>>=◌, ◌>>◌}
use Rattle.meaning.proofs.Local.{Local, bind_inv, bind-got, ret_inv}
use Rattle.meaning.specs.Types.{Fix, byte, bool, i16, u16, i32, u32, i64, u64, dbl, fd, Base, fix, str, path, sig, Ty, base, arr, dict, struct, variant, Tys, one, more, Raw, Of, Ofs, Var, Value, size, align_base, align, whole, whole_fix}
use Rattle.meaning.specs.Signature.{parse, legal, all_legal, spell, spell_all}
use Rattle.meaning.specs.Number.{store, gap}
use Rattle.meaning.proofs.NumberLaws.{Bytes, length-store}
use Rattle.meaning.specs.Value.{Layout, ◌▹◌, pad, raw, each, counted, Cond, ok_pad, ok_then, Each, first, ok_counted, sized, bare, enc_base, OkBase, enc, encs, Ok, Oks, enc_var, OkVar, encode, Fits, Encodes}
use Rattle.meaning.specs.ReadValue.{padding, read_sig, accept, single, base_r, elements, array_r, pair_r, read, reads, variant_of, read_var, read_top}
use Rattle.meaning.proofs.ValueLocal.{padding-local, base_r-local, pair_r-local, read-local, read_sig-local, accept-local, read_var-local, read_top-local}
use Rattle.meaning.proofs.Local.{bind-local}
use Rattle.meaning.proofs.Meets.{At, at_read, at-then, then_at, at-bytes, Meets, here-bind, length-pad, padded, paired, headed, elements-fill, mid_le}
use Rattle.meaning.proofs.BaseMeets.{bases, sig-sound, sig-complete}
use Rattle.meaning.specs.declared.Order.{Order}
use Rattle.meaning.proofs.Booleans.{and_left}

-- every complete type takes a byte at least
pub ne-then : (f g : Layout) (off : ℕ) → 1 ≤ length (g (off + length (f off))) → 1 ≤ length ((f ▹ g) off)
unfolding ◌▹◌
ne-then f g off h = rw length-append (omega arith)

pub ne-size : (c : Fix) → 1 ≤ size c
ne-size = by_size (λ n. 1 ≤ n) (lit≤ tt) (lit≤ tt) (lit≤ tt) (lit≤ tt)

ne-sized : (o : Order) (w : ℕ) (v : List ℕ) → 1 ≤ length (sized o w v)
unfolding sized
ne-sized o w v = rw (length-append (store o w (length v)), length-append v) (omega arith)

ne-bare : (o : Order) (c : Base) (v : Raw c) → 1 ≤ length (bare o c v)
unfolding bare
ne-bare o (fix c) v = rw length-store (ne-size c)
ne-bare o str v = ne-sized o 4 v
ne-bare o path v = ne-sized o 4 v
ne-bare o sig v = ne-sized o 1 v

ne-base : (o : Order) (c : Base) (v : Raw c) (off : ℕ) → 1 ≤ length (enc_base o c v off)
unfolding enc_base
ne-base o c v off = ne-then (pad (align_base c)) (raw (bare o c v)) off (ne-bare o c v)

ne-counted : (o : Order) (a : ℕ) (f : Layout) (off : ℕ) → 1 ≤ length (counted o a f off)
unfolding counted
ne-counted o a f off = rw (length-append, length-store) (omega arith)

module _ (o : Order) {W : Type 0} (enc_w : W → Layout) (ne_w : (w : W) (off : ℕ) → 1 ≤ length (enc_w w off)) where
  mutual
    unfolding enc

    pub ne : (t : Ty) (v : Of t W) (off : ℕ) → 1 ≤ length (enc o enc_w t v off)
    ne (base c) v off = ne-base o c v off
    ne (arr e) vs off = ne-then (pad 4) (counted o (align e) (each (λ v. enc o enc_w e v) vs)) off (ne-counted o (align e) (each (λ v. enc o enc_w e v) vs) _)
    ne (dict f k e) vs off = ne-then (pad 4) (counted o 8 (each (λ v. pad 8 ▹ enc_base o k v.0 ▹ enc o enc_w e v.1) vs)) off (ne-counted o 8 _ _)
    ne (struct fs) v off = ne-then (pad 8) (encs o enc_w fs v) off (nes fs v _)
    ne variant w off = ne_w w off

    pub nes : (fs : Tys) (v : Ofs fs W) (off : ℕ) → 1 ≤ length (encs o enc_w fs v off)
    nes (one e) v off = ne e v off
    nes (more e fs) v off = ne-then (enc o enc_w e v.0) (encs o enc_w fs v.1) off (nes fs v.1 _)

-- arrays of fixed types hold a whole number of elements
module _ (o : Order) (c : Fix) (al : (off : ℕ) → (off + gap (size c) off) % size c ≡ 0) (no_gap : (off : ℕ) → off % size c ≡ 0 → gap (size c) off ≡ 0) (z : 0 % size c ≡ 0) where
  whole-fix : (vs : List ℕ) (off : ℕ) → off % size c ≡ 0 → length (each (λ v. enc_base o (fix c) v) vs off) % size c ≡ 0
  unfolding each enc_base bare ◌▹◌
  whole-fix [] off h = z
  whole-fix (v ∷ vs) off h =
      let l : length (enc_base o (fix c) v off) ≡ size c = length-append (pad (size c) off) (store o (size c) v) ∙ omega (arith, length-pad (size c) off, no_gap off h, length-store o (size c) v) in
      let nx : (off + length (enc_base o (fix c) v off)) % size c ≡ 0 = rw l (add-mod_right off (size c) ∙ h) in
      let ih = whole-fix vs (off + length (enc_base o (fix c) v off)) nx in
      length-append-mod l ih
    where
      length-append-mod : length (enc_base o (fix c) v off) ≡ size c → length (each (λ v. enc_base o (fix c) v) vs (off + length (enc_base o (fix c) v off))) % size c ≡ 0
          → length (each (λ v. enc_base o (fix c) v) (v ∷ vs) off) % size c ≡ 0
      length-append-mod l ih = rw (length-append (enc_base o (fix c) v off) (each (λ v. enc_base o (fix c) v) vs (off + length (enc_base o (fix c) v off))), l) (add-mod_left (size c) _ ∙ (rw l at ih))

mod1 : (n : ℕ) → n % 1 ≡ 0
mod1 n = omega arith

-- gaps, for the four alignments
pub gap-al : (c : Fix) (off : ℕ) → (off + gap (size c) off) % size c ≡ 0
unfolding gap
gap-al c off = by_size (λ n. (off + gap n off) % n ≡ 0) (omega arith) (omega arith) (omega arith) (omega arith) c

pub gap-none : (c : Fix) (off : ℕ) → off % size c ≡ 0 → gap (size c) off ≡ 0
unfolding gap
gap-none c off = by_size (λ n. off % n ≡ 0 → gap n off ≡ 0) (λ h. omega arith) (λ h. omega arith) (λ h. omega arith) (λ h. omega arith) c

zero-mod : (c : Fix) → 0 % size c ≡ 0
zero-mod = by_size (λ n. 0 % n ≡ 0) refl refl refl refl

whole-any : (o : Order) (c : Fix) (vs : List ℕ) (off : ℕ) → length (each (λ v. enc_base o (fix c) v) vs (first (size c) off)) % size c ≡ 0
whole-any o c vs off = whole-fix o c (gap-al c) (gap-none c) (zero-mod c) vs (first (size c) off) (gap-al c (off + 4))

wholes-fix : (o : Order) (c : Fix) (vs : List ℕ) (off : ℕ) → length (each (λ v. enc_base o (fix c) v) vs (first (size c) off)) % whole_fix c ≡ 0
wholes-fix o byte vs off = mod1 _
wholes-fix o bool vs off = mod1 _
wholes-fix o i16 vs off = whole-any o i16 vs off
wholes-fix o u16 vs off = whole-any o u16 vs off
wholes-fix o i32 vs off = mod1 _
wholes-fix o u32 vs off = whole-any o u32 vs off
wholes-fix o i64 vs off = whole-any o i64 vs off
wholes-fix o u64 vs off = whole-any o u64 vs off
wholes-fix o dbl vs off = whole-any o dbl vs off
wholes-fix o fd vs off = whole-any o fd vs off

module _ (o : Order) {W : Type 0} (enc_w : W → Layout) where
  wholes-base : (c : Base) (vs : List (Raw c)) (off : ℕ) → length (each (λ v. enc_base o c v) vs (first (align_base c) off)) % whole (base c) ≡ 0
  wholes-base (fix c) vs off = wholes-fix o c vs off
  wholes-base str vs off = mod1 _
  wholes-base path vs off = mod1 _
  wholes-base sig vs off = mod1 _

  wholes : (e : Ty) (vs : List (Of e W)) (off : ℕ) → length (each (λ v. enc o enc_w e v) vs (first (align e) off)) % whole e ≡ 0
  unfolding enc
  wholes (base c) vs off = wholes-base c vs off
  wholes (arr e) vs off = mod1 _
  wholes (dict f k e) vs off = mod1 _
  wholes (struct fs) vs off = mod1 _
  wholes variant vs off = mod1 _

module _ (o : Order) {W : Type 0} (read_w : R W) (enc_w : W → Layout) (ok_w : W → Cond) (h_w : Meets read_w enc_w ok_w) (l_w : Local read_w)
    (ne_w : (w : W) (off : ℕ) → 1 ≤ length (enc_w w off)) where
  arrays : {A : Type 0} (a w : ℕ) (r : R A) (f : A → Layout) (k : A → Cond) → Meets r f k → Local r → ((v : A) (off : ℕ) → 1 ≤ length (f v off))
      → ((vs : List A) (off : ℕ) → length (each f vs (first a off)) % w ≡ 0) → Meets (array_r o a w r) (λ vs. pad 4 ▹ counted o a (each f vs)) (λ vs. ok_pad 4 (ok_counted a f k vs))
  unfolding array_r
  arrays a w r f k h lr nf wh =
      headed o a (λ n. elements n w r) (λ vs. each f vs) (λ vs. Each f k vs) (elements-fill a w r f k h lr nf wh)

  mutual
    unfolding read enc Ok

    pub values : (t : Ty) → Meets (read o read_w t) (λ v. enc o enc_w t v) (λ v. Ok o enc_w ok_w t v)
    values (base c) = bases o c
    values (arr e) = arrays (align e) (whole e) (read o read_w e) (λ v. enc o enc_w e v) (λ v. Ok o enc_w ok_w e v) (values e) (read-local o read_w l_w e) (ne o enc_w ne_w e) (wholes o enc_w e)
    values (dict f k e) = arrays 8 1 (padding 8 >> pair_r (base_r o k) (read o read_w e)) (λ v. pad 8 ▹ enc_base o k v.0 ▹ enc o enc_w e v.1)
        (λ v. ok_pad 8 (ok_then (enc_base o k v.0) (λ off. OkBase k v.0) (Ok o enc_w ok_w e v.1)))
        (padded 8 (pair_r (base_r o k) (read o read_w e)) (λ v. enc_base o k v.0 ▹ enc o enc_w e v.1) (λ v. ok_then (enc_base o k v.0) (λ off. OkBase k v.0) (Ok o enc_w ok_w e v.1))
        (paired (base_r o k) (read o read_w e) (λ v. enc_base o k v) (λ v. enc o enc_w e v) (λ v off. OkBase k v) (λ v. Ok o enc_w ok_w e v) (bases o k) (values e) (base_r-local o k).bound)
        (padding-local 8).bound)
        (bind-local (padding 8) (λ z. pair_r (base_r o k) (read o read_w e)) (padding-local 8) (λ z. pair_r-local (base_r o k) (read o read_w e) (base_r-local o k) (read-local o read_w l_w e)))
        (λ v off. ne-then (pad 8) (enc_base o k v.0 ▹ enc o enc_w e v.1) off (ne-then (enc_base o k v.0) (enc o enc_w e v.1) _ (ne o enc_w ne_w e v.1 _)))
        (λ vs off. mod1 _)
    values (struct fs) = padded 8 (reads o read_w fs) (λ v. encs o enc_w fs v) (λ v. Oks o enc_w ok_w fs v) (fields fs) (padding-local 8).bound
    values variant = h_w

    pub fields : (fs : Tys) → Meets (reads o read_w fs) (λ v. encs o enc_w fs v) (λ v. Oks o enc_w ok_w fs v)
    fields (one e) = values e
    fields (more e fs) = paired (read o read_w e) (reads o read_w fs) (λ v. enc o enc_w e v) (λ v. encs o enc_w fs v) (λ v. Ok o enc_w ok_w e v) (λ v. Oks o enc_w ok_w fs v)
        (values e) (fields fs) (read-local o read_w l_w e).bound

single-inv : (ts : List Ty) (p : ℕ) (b : List ℕ) (off : ℕ) (t : Ty) (m : ℕ) → single ts p b off ≡ got t m → (ts ≡ t ∷ []) × (off ≡ m)
unfolding single ret fail
single-inv [] p b off t m h = absurd (let z : ◌≡◌ {A = ℕ} 0 1 = cc in omega arith)
single-inv (e ∷ []) p b off t m h = (cc, cc)
single-inv (e ∷ d ∷ ds) p b off t m h = absurd (let z : ◌≡◌ {A = ℕ} 0 1 = cc in omega arith)

single-got : (t : Ty) (p : ℕ) (b : List ℕ) (off : ℕ) → single (t ∷ []) p b off ≡ got t off
unfolding single ret
single-got t p b off = refl

and-true : (a : Bool) → T a → T (a && true)
and-true true h = tt
and-true false h = h

pub one-legal : (t : Ty) → T (all_legal (t ∷ [])) → T (legal t)
unfolding all_legal
one-legal t h = and_left (legal t) true h

pub legal-one : (t : Ty) → T (legal t) → T (all_legal (t ∷ []))
unfolding all_legal
legal-one t h = and-true (legal t) h

pub spell_one : (t : Ty) → spell_all (t ∷ []) ≡ spell t
unfolding spell_all
spell_one t = append-nil (spell t)

pub ne_var : (o : Order) (n : ℕ) (w : Var n) (off : ℕ) → 1 ≤ length (enc_var o n w off)
unfolding enc_var
ne_var o zero w off = absurd w
ne_var o (suc n) w off = ne-then (raw (bare o sig (spell w.0))) (enc o (enc_var o n) w.0 w.1) off (ne o (enc_var o n) (ne_var o n) w.0 w.1 _)

-- the head of a variant, over any contents that meet their layouts: a signature of one legal type, and then a value of it
module _ {B : Ty → Type 0} (o : Order) (c : (t : Ty) → R (B t)) (f : (t : Ty) → B t → Layout) (k : (t : Ty) → B t → Cond)
    (ih : (t : Ty) → Meets (c t) (f t) (k t)) where
  abbrev enc_of : (t : Ty) × B t → Layout
  enc_of w = raw (bare o sig (spell w.0)) ▹ f w.0 w.1

  abbrev ok_of : (t : Ty) × B t → Cond
  ok_of w off = T (legal w.0) × (length (spell w.0) ≤ 255) × ok_then (raw (bare o sig (spell w.0))) (λ p. Unit {0}) (k w.0 w.1) off

  abbrev holds : Ty → R ((t : Ty) × B t)
  holds t = c t >>= λ v. ret (t, v)

  abbrev typed : ℕ → List Ty → R ((t : Ty) × B t)
  typed p ts = single ts p >>= λ t. holds t

  abbrev spelt : ℕ → List ℕ → R ((t : Ty) × B t)
  spelt p s = accept (parse s) p >>= λ ts. typed p ts

  var-sound : (b : List ℕ) → Bytes b → (off : ℕ) (w : (t : Ty) × B t) (e : ℕ) → off ≤ length b → variant_of o c b off ≡ got w e
      → ok_of w off × At b off (enc_of w off) e
  unfolding variant_of bare
  var-sound b y off w e l q =
      let i1 = bind_inv (read_sig o) (spelt off) b off w e (sym (here-bind (λ p. read_sig o >>= spelt p) b off) ∙ q) in
      let i2 = bind_inv (accept (parse i1.0) off) (typed off) b i1.1 w e i1.3 in
      let i3 = bind_inv (single i2.0 off) holds b i2.1 w e i2.3 in
      let t : Ty = i3.0 in
      let at : ℕ = i3.1 in
      let i4 = bind_inv (c t) (λ v. ret (t, v)) b at w e i3.3 in
      let v : B t = i4.0 in
      let r = ret_inv (t, v) b i4.1 w e i4.3 in
      let sg = sig-sound o b y off off i1.0 i1.1 i2.0 i2.1 l i1.2 i2.2 in
      let sn = single-inv i2.0 off b i2.1 t at i3.2 in
      let s : i1.0 ≡ spell t = sg.1 ∙ ap spell_all sn.0 ∙ spell_one t in
      let a0 : At b off (sized o 1 (spell t)) i2.1 = subst (λ (z : List ℕ). At b off (sized o 1 z) i2.1) s sg.3 in
      let a1 : At b off (sized o 1 (spell t)) at = subst (λ (z : ℕ). At b off (sized o 1 (spell t)) z) sn.1 a0 in
      let lg : T (legal t) = one-legal t (subst (λ (z : List Ty). T (all_legal z)) sn.0 sg.0) in
      let bs : i1.1 ≤ length b = ((read_sig-local o).bound b off i1.0 i1.1 l i1.2).1 in
      let bd : i2.1 ≤ length b = ((accept-local (parse i1.0) off).bound b i1.1 i2.0 i2.1 bs i2.2).1 in
      let vl = (ih t).sound b y at v i4.1 (subst (λ (z : ℕ). z ≤ length b) sn.1 bd) i4.2 in
      let vl1 : At b at (f t v at) e = subst (λ (z : ℕ). At b at (f t v at) z) r.1 vl.1 in
      let res : ok_of (t, v) off × At b off (enc_of (t, v) off) e
      = (
        (lg, subst (λ (z : List ℕ). length z ≤ 255) s sg.2, (tt, subst (k t v) a1.end vl.0)),
        at-then b off (raw (sized o 1 (spell t))) (f t v) at e a1 vl1,
      ) in
      subst (λ (z : (t : Ty) × B t). ok_of z off × At b off (enc_of z off) e) r.0 res

  var-complete : (b : List ℕ) (off : ℕ) (w : (t : Ty) × B t) (e : ℕ) → ok_of w off → At b off (enc_of w off) e → e ≤ length b
      → variant_of o c b off ≡ got w e
  unfolding variant_of bare ret
  var-complete b off w e g q l =
      let t : Ty = w.0 in
      let sp = then_at b off (raw (sized o 1 (spell t))) (f t w.1) e q in
      let m : ℕ = off + length (sized o 1 (spell t)) in
      let s1 : spell t ≡ spell_all (t ∷ []) = sym (spell_one t) in
      let sg = sig-complete o b off off (t ∷ []) m (legal-one t g.0) (subst (λ (z : List ℕ). length z ≤ 255) s1 g.1)
      (subst (λ (z : List ℕ). At b off (sized o 1 z) m) s1 sp.0) (mid_le b _ _ e sp.1 l) in
      here-bind (λ p. read_sig o >>= spelt p) b off
      ∙ bind-got (read_sig o) (spelt off) b off (spell_all (t ∷ [])) m sg.0
      ∙ bind-got (accept (parse (spell_all (t ∷ []))) off) (typed off) b m (t ∷ []) m sg.1
      ∙ bind-got (single (t ∷ []) off) holds b m t m (single-got t off b m)
      ∙ bind-got (c t) (λ v. ret (t, v)) b m w.1 e ((ih t).complete b m w.1 e g.2.1 sp.1 l)

  pub heads : Meets (variant_of o c) (λ w. enc_of w) (λ w. ok_of w)
  heads = record { sound = var-sound; complete = var-complete }

-- a 17th variant: nothing encodes it, and nothing is accepted
var-zero : (o : Order) → Meets (read_var o zero) (λ w. enc_var o zero w) (λ w. OkVar o zero w)
unfolding read_var here fail ◌>>=◌
var-zero o = record {
  sound = λ b y off v e l q. absurd v;
  complete = λ b off v e k t l. absurd v;
}

var-suc : (o : Order) (n : ℕ) → Meets (read_var o n) (λ w. enc_var o n w) (λ w. OkVar o n w)
    → Meets (read_var o (suc n)) (λ w. enc_var o (suc n) w) (λ w. OkVar o (suc n) w)
unfolding read_var enc_var OkVar
var-suc o n h = heads o (λ e. read o (read_var o n) e) (λ t v. enc o (enc_var o n) t v) (λ t v. Ok o (enc_var o n) (OkVar o n) t v)
    (values o (read_var o n) (λ w. enc_var o n w) (λ w. OkVar o n w) h (read_var-local o n) (ne_var o n))

pub variants : (o : Order) (n : ℕ) → Meets (read_var o n) (λ w. enc_var o n w) (λ w. OkVar o n w)
variants o zero = var-zero o
variants o (suc n) = var-suc o n (variants o n)

pub top-meets : (o : Order) (t : Ty) → Meets (read_top o t) (λ v. encode o t v) (λ v. Fits o t v)
unfolding read_top encode Fits
top-meets o t = values o (read_var o 16) (λ w. enc_var o 16 w) (λ w. OkVar o 16 w) (variants o 16) (read_var-local o 16) (ne_var o 16) t

-- Demand 2. What is accepted encodes a value of the type
pub accepted-encodes : (o : Order) (t : Ty) (b : List ℕ) → Bytes b → (off n : ℕ) → off ≤ length b
    → (v : Value t) → read_top o t b off ≡ got v (off + n) → Encodes o t b off n
unfolding Encodes
accepted-encodes o t b y off n h v q =
    let i = (top-meets o t).sound b y off v (off + n) h q in
    let g = (read_top-local o t).bound b off v (off + n) h q in
    let z : n ≡ length (encode o t v off) = omega (arith, i.1.end) in
    (g.1, (v, i.0, subst (λ (m : ℕ). take m (drop off b) ≡ encode o t v off) (sym z) (at_read b off (encode o t v off) (off + n) i.1)))

-- and what encodes a value of the type is accepted, with that value
pub encodes-accepted : (o : Order) (t : Ty) (b : List ℕ) (off n : ℕ) (h : Encodes o t b off n) → (v : Value t) × (read_top o t b off ≡ got v (off + n))
unfolding Encodes
encodes-accepted o t b off n h =
    let v = h.1.0 in
    let a : At b off (take n (drop off b)) (off + n) = at-bytes b off n h.0 in
    (v, (top-meets o t).complete b off v (off + n) h.1.1 (subst (λ (x : List ℕ). At b off x (off + n)) h.1.2 a) h.0)
