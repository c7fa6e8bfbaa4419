-- "Every complete type takes at least one byte, so each round of an array gets further": no reader of a value accepts nothing.
use Prim.Native.Nat.{ℕ, zero, suc, ◌+◌, ◌≤◌, ◌<◌}
use native.Mathlib.Omega.{arith}
use mathlib.Core.Bool.{Bool}
use mathlib.Core.List.{List}
use mathlib.Core.Path.{◌≡◌}
use lib.ListN.{length, take, drop}
use Rattle.meaning.specs.declared.Order.{Order}
use Rattle.meaning.specs.declared.Fault.TheVariants.{InvalidBoolean, InvalidUtf8, StringContainsNullByte, MissingTerminator, InvalidObjectPath, VariantTooDeep}
use Rattle.meaning.specs.Reader.{got, R, ret, here, fail, ◌>>=◌, ◌>>◌, check, bytes}
use Rattle.meaning.specs.Types.{Fix, Base, fix, str, path, sig, Ty, base, arr, dict, struct, variant, Tys, one, more, size, align_base, align, whole}
use Rattle.meaning.specs.Signature.{parse}
use Rattle.meaning.specs.Number.{load, zeros}
use Rattle.meaning.specs.Text.{utf8, no_zero, is_path}
use Rattle.meaning.specs.ReadValue.{any, valid, padding, read_fix, sized_r, read_text, read_path, read_sig, accept, read_g, bare_r, base_r, elements, length_r, contents_of, array_of, array_r, pair_r, read, reads, single, variant_of, read_var}
use Rattle.meaning.proofs.Local.{Local, Bounded, Full, bind-local, bind_inv, bytes-inv, ret-local, here-local, fail-local, check-local, bytes-local}
use Rattle.meaning.proofs.ValueLocal.{padding-local, read_text-local, read_sig-local, accept-local, single-local, base_r-local, elements-bounded, elements-full, length_r-local, contents-local, pair_r-local, read-local, reads_local, read_var-local}
use Rattle.meaning.proofs.ValueMeets.{ne-size}

abbrev pub Grows : {A : Type 0} → R A → Type 0
Grows {A} r = (b : List ℕ) (off : ℕ) (v : A) (e : ℕ) → off ≤ length b → r b off ≡ got v e → off < e

-- what reads something and then goes on, and what goes on to read something
pub first-grows : {A B : Type 0} (r : R A) (f : A → R B) → Local r → Grows r → ((v : A) → Local (f v)) → Grows (r >>= f)
first-grows r f lr gr lf b off w e h k =
    let i = bind_inv r f b off w e k in
    let b1 = lr.bound b off i.0 i.1 h i.2 in
    let b2 = (lf i.0).bound b i.1 w e b1.1 i.3 in
    let g = gr b off i.0 i.1 h i.2 in
    omega arith

pub then_grows : {A B : Type 0} (r : R A) (f : A → R B) → Local r → ((v : A) → Grows (f v)) → Grows (r >>= f)
then_grows r f lr gf b off w e h k =
    let i = bind_inv r f b off w e k in
    let b1 = lr.bound b off i.0 i.1 h i.2 in
    let g = gf i.0 b i.1 w e b1.1 i.3 in
    omega arith

bytes-grows : (n p : ℕ) → 1 ≤ n → Grows (bytes n p)
bytes-grows n p l b off v e h k = let i = bytes-inv n p b off v e k in omega (arith, i.2)

ruleset local = (bind-local, ret-local, here-local, fail-local, check-local, bytes-local)

fix-grows : (o : Order) (c : Fix) → Grows (read_fix o c)
unfolding read_fix
fix-grows o c = then_grows here (λ p. bytes (size c) p >>= λ xs. check (valid c (load o xs)) InvalidBoolean p >> ret (load o xs)) here-local
    (λ p. first-grows (bytes (size c) p) (λ xs. check (valid c (load o xs)) InvalidBoolean p >> ret (load o xs)) (bytes-local (size c) p) (bytes-grows (size c) p (ne-size c)) (λ xs. search local depth 20))

abbrev tested : Order → (List ℕ → Bool) → ℕ → List ℕ → List ℕ → R (List ℕ)
tested o test p n s = check (utf8 (take (load o n) s)) InvalidUtf8 p >> (check (test (take (load o n) s)) StringContainsNullByte p >> (check (zeros (drop (load o n) s)) MissingTerminator p >> ret (take (load o n) s)))

pub sized-grows : (o : Order) (w : ℕ) (test : List ℕ → Bool) → 1 ≤ w → Grows (sized_r o w test)
unfolding sized_r
sized-grows o w test l = then_grows here (λ p. bytes w p >>= λ n. bytes (load o n + 1) p >>= λ s. tested o test p n s) here-local
    (λ p. first-grows (bytes w p) (λ n. bytes (load o n + 1) p >>= λ s. tested o test p n s) (bytes-local w p) (bytes-grows w p l) (λ n. search local depth 20))

text-grows : (o : Order) → Grows (read_text o)
unfolding read_text
text-grows o = sized-grows o 4 no_zero (omega arith)

pub sig-grows : (o : Order) → Grows (read_sig o)
unfolding read_sig
sig-grows o = sized-grows o 1 any (omega arith)

bare-grows : (o : Order) (c : Base) → Grows (bare_r o c)
unfolding bare_r read_path read_g
bare-grows o (fix c) = fix-grows o c
bare-grows o str = text-grows o
bare-grows o path = then_grows here (λ p. read_text o >>= λ s. check (is_path s) InvalidObjectPath p >> ret s) here-local
    (λ p. first-grows (read_text o) (λ s. check (is_path s) InvalidObjectPath p >> ret s) (read_text-local o) (text-grows o) (λ s. search local depth 20))
bare-grows o sig = then_grows here (λ p. read_sig o >>= λ s. accept (parse s) p >> ret s) here-local
    (λ p. first-grows (read_sig o) (λ s. accept (parse s) p >> ret s) (read_sig-local o) (sig-grows o) (λ s. search (local, accept-local) depth 20))

pub base-grows : (o : Order) (c : Base) → Grows (base_r o c)
unfolding base_r
base-grows o c = then_grows (padding (align_base c)) (λ z. bare_r o c) (padding-local (align_base c)) (λ z. bare-grows o c)

length-grows : (o : Order) → Grows (length_r o)
unfolding length_r
length-grows o = then_grows here (λ p. bytes 4 p >>= λ l. ret (load o l)) here-local
    (λ p. first-grows (bytes 4 p) (λ l. ret (load o l)) (bytes-local 4 p) (bytes-grows 4 p (omega arith)) (λ l. ret-local (load o l)))

array_of-grows : {A : Type 0} (o : Order) (a : ℕ) (c : ℕ → R A) → ((n : ℕ) → Bounded (c n)) → ((n : ℕ) → Full (c n)) → Grows (array_of o a c)
unfolding array_of
array_of-grows o a c bc fc = then_grows (padding 4) (λ z. length_r o >>= λ n. contents_of a c n) (padding-local 4)
    (λ z. first-grows (length_r o) (λ n. contents_of a c n) (length_r-local o) (length-grows o) (λ n. contents-local o a c bc fc n))

pub array-grows : {A : Type 0} (o : Order) (a w : ℕ) (r : R A) → Local r → Grows (array_r o a w r)
unfolding array_r
array-grows o a w r lr = array_of-grows o a (λ n. elements n w r) (λ n. elements-bounded n w r lr) (λ n. elements-full n w r lr)

pub pair-grows : {A B : Type 0} (r : R A) (s : R B) → Local r → Grows r → Local s → Grows (pair_r r s)
unfolding pair_r
pair-grows r s lr gr ls = first-grows r (λ x. s >>= λ y. ret (x, y)) lr gr (λ x. search local depth 20)

pub entry-local : {A : Type 0} (o : Order) (k : Base) (r : R A) → Local r → Local (padding 8 >> pair_r (base_r o k) r)
entry-local o k r lr = bind-local (padding 8) (λ z. pair_r (base_r o k) r) (padding-local 8) (λ z. pair_r-local (base_r o k) r (base_r-local o k) lr)

pub entry-grows : {A : Type 0} (o : Order) (k : Base) (r : R A) → Local r → Grows (padding 8 >> pair_r (base_r o k) r)
entry-grows o k r lr = then_grows (padding 8) (λ z. pair_r (base_r o k) r) (padding-local 8) (λ z. pair-grows (base_r o k) r (base_r-local o k) (base-grows o k) lr)

module _ (o : Order) {W : Type 0} (read_w : R W) (lw : Local read_w) (gw : Grows read_w) where
  mutual
    unfolding read

    pub read-grows : (t : Ty) → Grows (read o read_w t)
    read-grows (base c) = base-grows o c
    read-grows (arr e) = array-grows o (align e) (whole e) (read o read_w e) (read-local o read_w lw e)
    read-grows (dict f k e) = array-grows o 8 1 (padding 8 >> pair_r (base_r o k) (read o read_w e)) (entry-local o k (read o read_w e) (read-local o read_w lw e))
    read-grows (struct fs) = then_grows (padding 8) (λ z. reads o read_w fs) (padding-local 8) (λ z. reads-grows fs)
    read-grows variant = gw

    pub reads-grows : (fs : Tys) → Grows (reads o read_w fs)
    reads-grows (one e) = read-grows e
    reads-grows (more e fs) = pair-grows (read o read_w e) (reads o read_w fs) (read-local o read_w lw e) (read-grows e) (reads_local o read_w lw fs)

-- the head of a variant takes a byte at least, whatever it holds
variant_of-grows : {B : Ty → Type 0} (o : Order) (c : (e : Ty) → R (B e)) → ((e : Ty) → Local (c e)) → Grows (variant_of o c)
unfolding variant_of
variant_of-grows {B} o c lc = then_grows here (λ p. read_sig o >>= rest p) here-local
    (λ p. first-grows (read_sig o) (rest p) (read_sig-local o) (sig-grows o) (λ s. search (local, accept-local, single-local, lc) depth 20))
  where
    rest : ℕ → List ℕ → R ((e : Ty) × B e)
    rest p s = accept (parse s) p >>= λ ts. single ts p >>= λ e. c e >>= λ v. ret (e, v)

pub var-grows : (o : Order) (n : ℕ) → Grows (read_var o n)
unfolding read_var
var-grows o zero = then_grows here (λ p. fail VariantTooDeep p) here-local (λ p b off v e h k. absurd v)
var-grows o (suc n) = variant_of-grows o (λ e. read o (read_var o n) e) (read-local o (read_var o n) (read_var-local o n))
