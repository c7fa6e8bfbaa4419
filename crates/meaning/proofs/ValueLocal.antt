-- Demand 3 for values: every reader of ReadValue.antt is local, by its combinators.
use Prim.Native.Nat.{ℕ, zero, suc, ◌%◌}
use native.Mathlib.Omega.{arith}
use mathlib.Core.Bool.{Bool}
use mathlib.Core.List.{List, [], ◌∷◌}
use mathlib.Core.Path.{refl}
use lib.Dec.{eqb}
use Rattle.meaning.specs.Reader.{R, ret, here, ◌>>=◌, ◌>>◌, check, within, many}
use Rattle.meaning.proofs.Local.{Local, Bounded, Full, bind-local, bind-bounded, bind-full, bind_inv, ret-local, here-local, fail-local, check-local, bytes-local, ahead-local, window-local, window-end, many-bounded, many-full}
use Rattle.meaning.specs.Types.{Fix, Base, fix, str, path, sig, Ty, base, arr, dict, struct, variant, Tys, one, more, align, whole}
use Rattle.meaning.specs.Signature.{Parsed, types, refused}
use Rattle.meaning.specs.Text.{no_zero}
use Rattle.meaning.specs.ReadValue.{any, padding, read_fix, sized_r, read_text, read_path, read_sig, accept, read_g, bare_r, base_r, elements, length_r, contents_of, array_of, array_r, pair_r, and_r, read, reads, single, variant_of, read_var, read_top}
use Rattle.meaning.specs.declared.Fault.TheVariants.{NotEnoughBytes, NotEnoughBytesForCollection, EmptySignature, WrongSignature}
use Rattle.meaning.specs.declared.Order.{Order}

ruleset local = (bind-local, ret-local, here-local, fail-local, check-local, bytes-local)

pub padding-local : (a : ℕ) → Local (padding a)
unfolding padding
padding-local a = search local depth 20

pub read_fix-local : (o : Order) (c : Fix) → Local (read_fix o c)
unfolding read_fix
read_fix-local o c = search local depth 20

pub sized_r-local : (o : Order) (w : ℕ) (test : List ℕ → Bool) → Local (sized_r o w test)
unfolding sized_r
sized_r-local o w test = search local depth 20

pub read_text-local : (o : Order) → Local (read_text o)
unfolding read_text
read_text-local o = sized_r-local o 4 no_zero

pub read_path-local : (o : Order) → Local (read_path o)
unfolding read_path
read_path-local o = search (local, read_text-local) depth 20

pub read_sig-local : (o : Order) → Local (read_sig o)
unfolding read_sig
read_sig-local o = sized_r-local o 1 any

pub accept-local : (q : Parsed) (p : ℕ) → Local (accept q p)
unfolding accept
accept-local (types ts) p = ret-local ts
accept-local (refused k) p = fail-local k p

pub single-local : (ts : List Ty) (p : ℕ) → Local (single ts p)
unfolding single
single-local [] p = fail-local EmptySignature p
single-local (e ∷ []) p = ret-local e
single-local (e ∷ d ∷ ds) p = fail-local WrongSignature p

pub read_g-local : (o : Order) → Local (read_g o)
unfolding read_g
read_g-local o = search (local, read_sig-local, accept-local) depth 20

pub bare_r-local : (o : Order) (c : Base) → Local (bare_r o c)
unfolding bare_r
bare_r-local o (fix c) = read_fix-local o c
bare_r-local o str = read_text-local o
bare_r-local o path = read_path-local o
bare_r-local o sig = read_g-local o

pub base_r-local : (o : Order) (c : Base) → Local (base_r o c)
unfolding base_r
base_r-local o c = search (local, padding-local, bare_r-local) depth 20

pub pair_r-local : {A B : Type 0} (r : R A) (s : R B) → Local r → Local s → Local (pair_r r s)
unfolding pair_r
pair_r-local r s lr ls = search local depth 20

pub and_r-local : {A : Type 0} {B : A → Type 0} (r : R A) (s : (x : A) → R (B x)) → Local r → ((x : A) → Local (s x)) → Local (and_r r s)
unfolding and_r
and_r-local r s lr ls = bind-local r (λ x. s x >>= λ y. ret (x, y)) lr (λ x. bind-local (s x) (λ y. ret (x, y)) (ls x) (λ y. ret-local (x, y)))

pub elements-bounded : {A : Type 0} (n w : ℕ) (r : R A) → Local r → Bounded (elements n w r)
unfolding elements
elements-bounded n w r lr = bind-bounded here (λ f. check (eqb (n % w) 0) NotEnoughBytes f >> many n r) here-local.bound
    (λ f. bind-bounded (check (eqb (n % w) 0) NotEnoughBytes f) (λ z. many n r) (check-local (eqb (n % w) 0) NotEnoughBytes f).bound (λ z. many-bounded n r lr.bound))

pub elements-full : {A : Type 0} (n w : ℕ) (r : R A) → Local r → Full (elements n w r)
unfolding elements
elements-full n w r lr = bind-full here (λ f. check (eqb (n % w) 0) NotEnoughBytes f >> many n r) here-local.bound
    (λ f. bind-full (check (eqb (n % w) 0) NotEnoughBytes f) (λ z. many n r) (check-local (eqb (n % w) 0) NotEnoughBytes f).bound (λ z. many-full n r lr.bound))

pub length_r-local : (o : Order) → Local (length_r o)
unfolding length_r
length_r-local o = search local depth 20

-- the head of an array, over any contents that fill the bytes that they are given
module _ {A : Type 0} (o : Order) (a : ℕ) (c : ℕ → R A) (bc : (n : ℕ) → Bounded (c n)) (fc : (n : ℕ) → Full (c n)) where
  part-local : (n : ℕ) → Local (within n (c n))
  part-local n = window-local NotEnoughBytesForCollection (λ p. p) n (c n) (bc n) (fc n) refl

  pub contents-local : (n : ℕ) → Local (contents_of a c n)
  contents-local n = ahead-local n (padding a >> within n (c n)) (bind-local (padding a) (λ z. within n (c n)) (padding-local a) (λ z. part-local n))
      (λ b off v e h k.
      let i = bind_inv (padding a) (λ z. within n (c n)) b off v e k in
      let j = (padding-local a).bound b off i.0 i.1 h i.2 in
      let q = window-end NotEnoughBytesForCollection (λ p. p) n (c n) (bc n) (fc n) b i.1 v e i.3 in
      omega arith)

  pub array_of-local : Local (array_of o a c)
  unfolding array_of
  array_of-local = search (local, padding-local, length_r-local, contents-local) depth 20

pub array_r-local : {A : Type 0} (o : Order) (a w : ℕ) (r : R A) → Local r → Local (array_r o a w r)
unfolding array_r
array_r-local o a w r lr =
    array_of-local o a (λ n. elements n w r) (λ n. elements-bounded n w r lr) (λ n. elements-full n w r lr)

module _ (o : Order) {W : Type 0} (read_w : R W) (lw : Local read_w) where
  mutual
    unfolding read

    pub read-local : (t : Ty) → Local (read o read_w t)
    read-local (base c) = base_r-local o c
    read-local (arr e) = array_r-local o (align e) (whole e) (read o read_w e) (read-local e)
    read-local (dict f k e) = array_r-local o 8 1 (padding 8 >> pair_r (base_r o k) (read o read_w e))
        (bind-local (padding 8) (λ z. pair_r (base_r o k) (read o read_w e)) (padding-local 8) (λ z. pair_r-local (base_r o k) (read o read_w e) (base_r-local o k) (read-local e)))
    read-local (struct fs) = bind-local (padding 8) (λ z. reads o read_w fs) (padding-local 8) (λ z. reads_local fs)
    read-local variant = lw

    pub reads_local : (fs : Tys) → Local (reads o read_w fs)
    reads_local (one e) = read-local e
    reads_local (more e fs) = pair_r-local (read o read_w e) (reads o read_w fs) (read-local e) (reads_local fs)

-- the head of a variant, over any contents
pub variant_of-local : {B : Ty → Type 0} (o : Order) (c : (e : Ty) → R (B e)) → ((e : Ty) → Local (c e)) → Local (variant_of o c)
unfolding variant_of
variant_of-local o c lc = search (local, read_sig-local, accept-local, single-local, lc) depth 20

pub read_var-local : (o : Order) (n : ℕ) → Local (read_var o n)
unfolding read_var
read_var-local o zero = search local
read_var-local o (suc n) = variant_of-local o (λ e. read o (read_var o n) e) (read-local o (read_var o n) (read_var-local o n))

pub read_top-local : (o : Order) (t : Ty) → Local (read_top o t)
unfolding read_top
read_top-local o t = read-local o (read_var o 16) (read_var-local o 16) t
