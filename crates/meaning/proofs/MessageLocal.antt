-- Demand 3 for messages: the reader of messages is local, by its combinators.
use Prim.Native.Nat.{ℕ, ◌≤◌, ◌<◌}
use native.Mathlib.Omega.{arith}
use mathlib.Core.List.{List, [], ◌∷◌, ◌++◌}
use mathlib.Core.Path.{◌≡◌, refl, ap, sym, ◌∙◌}
use lib.ListN.{length}
use lib.Dec.{eqb}
use Rattle.meaning.specs.Reader.{Res, got, fault, stop, R, ret, ◌>>=◌, ◌>>◌, inside, many}
use Rattle.meaning.proofs.Local.{Local, Bounded, Full, short, Cmp, is_le, is_gt, cmp, leb-true, leb-false, bind-local, bind-bounded, bind-full, map-full, ret-local, here-local, fail-local, check-local, bytes-local, window-local, many-bounded, many-full}
use Rattle.meaning.specs.Types.{Ty}
use Rattle.meaning.specs.Signature.{code, Parsed, types, refused}
use Rattle.meaning.specs.ReadValue.{padding, length_r, and_r, read, read_var, read_top}
use Rattle.meaning.proofs.ValueLocal.{padding-local, read_sig-local, accept-local, length_r-local, pair_r-local, and_r-local, read-local, read_var-local, read_top-local}
use Rattle.meaning.specs.Message.{Wants, nothing, exactly, anything}
use Rattle.meaning.specs.ReadMessage.{to_zero, at_zero, ended, fixed_r, byte_r, one_type, code_of, ask, type_r, field_r, table_r, open_r, values_r, body_r, message_of, read_message}
use Rattle.meaning.specs.declared.Fault.TheVariants.{NotEnoughBytes, WrongSignature, NoSignature, InvalidHeaderField, BodyLeft}
use Rattle.meaning.specs.declared.Order.{Order}

-- positions aside, at_zero answers as its reader does
short-zero : {A : Type 0} (x : Res A) → short (to_zero x) ≡ short x
short-zero (got v e) = refl
short-zero (fault x) = refl

zero-inv : {A : Type 0} (x : Res A) (v : A) (e : ℕ) → to_zero x ≡ got v e → x ≡ got v e
zero-inv (got w i) v e h = h
zero-inv (fault x) v e h = absurd (let z : ◌≡◌ {A = ℕ} 0 1 = cc in omega arith)

pub at_zero-inv : {A : Type 0} (r : R A) (b : List ℕ) (off : ℕ) (v : A) (e : ℕ) → at_zero r b off ≡ got v e → r b off ≡ got v e
unfolding at_zero
at_zero-inv r b off v e h = zero-inv (r b off) v e h

pub at_zero-got : {A : Type 0} (r : R A) (b : List ℕ) (off : ℕ) (v : A) (e : ℕ) → r b off ≡ got v e → at_zero r b off ≡ got v e
unfolding at_zero
at_zero-got r b off v e h = ap to_zero h

pub at_zero-local : {A : Type 0} (r : R A) → Local r → Local (at_zero r)
unfolding at_zero
at_zero-local r lr = record {
  up = λ b c off h s. ap to_zero (lr.up b c off h (sym (short-zero (r b off)) ∙ s));
  bound = λ b off v e h k. lr.bound b off v e h (zero-inv (r b off) v e k);
  down = λ b c off v e h k l. ap to_zero (lr.down b c off v e h (zero-inv (r (b ++ c) off) v e k) l);
}

pub ended-yes : (b : List ℕ) (off : ℕ) → length b ≤ off → ended b off ≡ got tt off
unfolding ended
ended-yes b off h = rw (leb-true (length b) off h, ended)

ended-no : (b : List ℕ) (off : ℕ) → off < length b → ended b off ≡ stop BodyLeft off
unfolding ended
ended-no b off h = rw (leb-false (length b) off h, ended)

pub ended-inv : (b : List ℕ) (off : ℕ) (v : Unit {0}) (e : ℕ) → ended b off ≡ got v e → (length b ≤ off) × (off ≡ e)
ended-inv b off v e k = go (cmp (length b) off)
  where
    go : Cmp (length b) off → (length b ≤ off) × (off ≡ e)
    go (is_le t l) = let h1 = ended-yes b off l in (l, cc)
    go (is_gt t l) = let h1 = ended-no b off l in absurd (let z : ◌≡◌ {A = ℕ} 0 1 = cc in omega arith)

ended-bounded : Bounded ended
ended-bounded b off v e h k = let i = ended-inv b off v e k in (omega (arith, i.1), omega (arith, i.1))

ended-full : Full ended
ended-full b off v e h k = let i = ended-inv b off v e k in omega (arith, i.0, i.1)

inside-local : {A : Type 0} (n : ℕ) (r : R A) → Bounded r → Full r → Local (inside n r)
inside-local n r br fr = window-local NotEnoughBytes (λ p. 0) n r br fr refl

ruleset local = (bind-local, ret-local, here-local, fail-local, check-local, bytes-local)

pub fixed_r-local : Local fixed_r
unfolding fixed_r
fixed_r-local = search local depth 20

pub byte_r-local : Local byte_r
unfolding byte_r
byte_r-local = search local depth 20

pub one_type-local : (q : Parsed) → Local (one_type q)
unfolding one_type
one_type-local (types []) = fail-local NoSignature 0
one_type-local (types (t ∷ [])) = ret-local t
one_type-local (types (t ∷ u ∷ ts)) = fail-local NoSignature 0
one_type-local (refused k) = fail-local NoSignature 0

pub ask-local : (w : Wants) (t : Ty) → Local (ask w t)
unfolding ask
ask-local nothing t = fail-local InvalidHeaderField 0
ask-local (exactly c) t = check-local (eqb (code_of t) (code c)) WrongSignature 0
ask-local anything t = ret-local tt

pub type_r-local : (o : Order) (c : ℕ) → Local (type_r o c)
unfolding type_r
type_r-local o c = search (local, read_sig-local, one_type-local, ask-local) depth 20

pub content_r-local : (o : Order) (c : ℕ) → Local (and_r (type_r o c) (λ t. read o (read_var o 15) t))
content_r-local o c = and_r-local (type_r o c) (λ t. read o (read_var o 15) t) (type_r-local o c) (read-local o (read_var o 15) (read_var-local o 15))

pub parts_r-local : (o : Order) → Local (and_r byte_r (λ c. and_r (type_r o c) (λ t. read o (read_var o 15) t)))
parts_r-local o = and_r-local byte_r (λ c. and_r (type_r o c) (λ t. read o (read_var o 15) t)) byte_r-local (content_r-local o)

pub field_r-local : (o : Order) → Local (field_r o)
unfolding field_r
field_r-local o = bind-local (padding 8) (λ z. and_r byte_r (λ c. and_r (type_r o c) (λ t. read o (read_var o 15) t))) (padding-local 8) (λ z. parts_r-local o)

pub fields_r-bounded : (o : Order) (n : ℕ) → Bounded (many n (field_r o))
fields_r-bounded o n = many-bounded n (field_r o) (field_r-local o).bound

pub fields_r-full : (o : Order) (n : ℕ) → Full (many n (field_r o))
fields_r-full o n = many-full n (field_r o) (field_r-local o).bound

pub table_r-local : (o : Order) → Local (table_r o)
unfolding table_r
table_r-local o = bind-local (length_r o) (λ n. inside n (many n (field_r o))) (length_r-local o) (λ n. inside-local n (many n (field_r o)) (fields_r-bounded o n) (fields_r-full o n))

pub open_r-local : Local open_r
unfolding open_r
open_r-local = search (local, fixed_r-local, table_r-local, padding-local, accept-local) depth 20

pub values_r-local : (o : Order) (ts : List Ty) → Local (values_r o ts)
unfolding values_r
values_r-local o [] = ret-local tt
values_r-local o (t ∷ ts) = pair_r-local (read_top o t) (values_r o ts) (read_top-local o t) (values_r-local o ts)

pub body_r-bounded : (o : Order) (ts : List Ty) → Bounded (body_r o ts)
unfolding body_r
body_r-bounded o ts = bind-bounded (values_r o ts) (λ vs. ended >> ret vs) (values_r-local o ts).bound
    (λ vs. bind-bounded ended (λ z. ret vs) ended-bounded (λ z. (ret-local vs).bound))

pub body_r-full : (o : Order) (ts : List Ty) → Full (body_r o ts)
unfolding body_r
body_r-full o ts = bind-full (values_r o ts) (λ vs. ended >> ret vs) (values_r-local o ts).bound (λ vs. map-full ended (λ z. vs) ended-full)

pub read_message-local : Local read_message
unfolding read_message
read_message-local = bind-local (at_zero open_r) (λ h. inside h.0.1 (body_r h.0.0.order h.1.1) >>= λ vs. ret (message_of h vs)) (at_zero-local open_r open_r-local)
    (λ h. bind-local (inside h.0.1 (body_r h.0.0.order h.1.1)) (λ vs. ret (message_of h vs))
    (inside-local h.0.1 (body_r h.0.0.order h.1.1) (body_r-bounded h.0.0.order h.1.1) (body_r-full h.0.0.order h.1.1))
    (λ vs. ret-local (message_of h vs)))
