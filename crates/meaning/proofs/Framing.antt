-- Framing: where the bytes that a message's first 16 state are all there, its answer rests on them alone, a refusal as too short too.
use Prim.Native.Nat.{ℕ, ◌+◌, ◌≤◌}
use native.Mathlib.Omega.{arith}
use mathlib.Core.Bool.{Bool, true, false}
use mathlib.Core.List.{List, ◌++◌}
use mathlib.Core.Path.{◌≡◌, refl, ap, sym, subst, ◌∙◌}
use lib.ListN.{length, take, drop, get_or}
use lib.Seq.{take-append-le}
use Rattle.meaning.specs.declared.Order.{Order}
use Rattle.meaning.specs.declared.Fault.{Fault}
use Rattle.meaning.specs.Types.{Ty}
use Rattle.meaning.specs.Number.{load, gap, zeros}
use Rattle.meaning.specs.Signature.{Parsed, parse, types, refused}
use Rattle.meaning.specs.Reader.{got, R, ret, here, fail, ◌>>=◌, ◌>>◌, check, bytes, window, inside, many}
use Rattle.meaning.specs.ReadValue.{at4, padding, accept, length_r}
use Rattle.meaning.specs.declared.Fault.TheVariants.{NotEnoughBytes, PaddingContainedData, InvalidByteOrder, InvalidMessageType, InvalidHeaderFields}
use Rattle.meaning.specs.Message.{Field, Fixed, Message, complete, body_signature}
use Rattle.meaning.specs.ReadMessage.{to_zero, at_zero, is_mark, is_kind, fixed_in, size_in, table_in, message_size, fixed_r, field_r, table_r, Opened, open_r, body_r, message_of, read_message}
use Rattle.meaning.proofs.Local.{Ran, ran, stopped, bind_is, bind-got, bind-fault, bind_inv, ret_inv, bytes-yes, le-append, take_part, window-yes, window-end}
use Rattle.meaning.proofs.Meets.{here-bind, check-bind-inv, bytes-bind-inv, padding-sound, length-pad}
use Rattle.meaning.proofs.MessageLocal.{at_zero-inv, fields_r-bounded, fields_r-full}

-- r answers the same, whatever follows the bytes that are there
abbrev Settled : {A : Type 0} → R A → List ℕ → ℕ → Type 0
Settled r b off = (c : List ℕ) → r (b ++ c) off ≡ r b off

bind-settled : {A B : Type 0} (r : R A) (f : A → R B) (b : List ℕ) (off : ℕ) → Settled r b off
    → ((v : A) (e : ℕ) → r b off ≡ got v e → Settled (f v) b e) → Settled (r >>= f) b off
bind-settled {A} {B} r f b off h k c = go (bind_is r f b off)
  where
    go : Ran r f b off → (r >>= f) (b ++ c) off ≡ (r >>= f) b off
    go (ran v e p q) = bind-got r f (b ++ c) off v e (h c ∙ p) ∙ k v e p c ∙ sym q
    go (stopped x p q) = bind-fault r f (b ++ c) off x (h c ∙ p) ∙ sym q

bytes-settled : (n p : ℕ) (b : List ℕ) (off : ℕ) → off + n ≤ length b → Settled (bytes n p) b off
bytes-settled n p b off l c =
    bytes-yes n p (b ++ c) off (le-append b c l) ∙ ap (λ (x : List ℕ). got x (off + n)) (take_part n off b c l) ∙ sym (bytes-yes n p b off l)

window-settled : {A : Type 0} (k : Fault) (at : ℕ → ℕ) (n : ℕ) (r : R A) (b : List ℕ) (off : ℕ) → off + n ≤ length b → Settled (window k at n r) b off
window-settled k at n r b off l c =
    window-yes k at n r (b ++ c) off (le-append b c l) ∙ ap (λ (x : List ℕ). r x off) (take-append-le (off + n) b c l) ∙ sym (window-yes k at n r b off l)

ret-settled : {A : Type 0} (v : A) (b : List ℕ) (off : ℕ) → Settled (ret v) b off
unfolding ret
ret-settled v b off c = refl

here-settled : (b : List ℕ) (off : ℕ) → Settled here b off
unfolding here
here-settled b off c = refl

check-settled : (a : Bool) (k : Fault) (p : ℕ) (b : List ℕ) (off : ℕ) → Settled (check a k p) b off
unfolding check
check-settled true k p b off c = refl
check-settled false k p b off c = refl

accept-settled : (q : Parsed) (p : ℕ) (b : List ℕ) (off : ℕ) → Settled (accept q p) b off
unfolding accept ret fail
accept-settled (types ts) p b off c = refl
accept-settled (refused k) p b off c = refl

-- where `here` got to
at_here : (b : List ℕ) (off p e : ℕ) → here b off ≡ got p e → (off ≡ p) × (off ≡ e)
unfolding here
at_here b off p e q = (cc, cc)

padding-settled : (a : ℕ) (b : List ℕ) (off : ℕ) → off + gap a off ≤ length b → Settled (padding a) b off
unfolding padding
padding-settled a b off l =
    bind-settled here (λ p. bytes (gap a p) p >>= λ zs. check (zeros zs) PaddingContainedData (at4 p zs)) b off (here-settled b off)
    (λ p e q. (
    let i = at_here b off p e q in
    let m : e + gap a p ≤ length b = subst (λ (x : ℕ). e + gap a x ≤ length b) i.0 (subst (λ (x : ℕ). x + gap a off ≤ length b) i.1 l) in
    bind-settled (bytes (gap a p) p) (λ zs. check (zeros zs) PaddingContainedData (at4 p zs)) b e (bytes-settled (gap a p) p b e m)
    (λ zs f z. check-settled (zeros zs) PaddingContainedData (at4 p zs) b f)
    ))

-- the first 12 bytes
abbrev checks : List ℕ → R (Fixed × ℕ)
checks x = check (is_mark (get_or x 0 0)) InvalidByteOrder 0 >> (check (is_kind (get_or x 1 0)) InvalidMessageType 0 >> ret (fixed_in x, size_in x))

fixed-settled : (b : List ℕ) → 12 ≤ length b → Settled fixed_r b 0
unfolding fixed_r
fixed-settled b l =
    bind-settled (bytes 12 0) checks b 0 (bytes-settled 12 0 b 0 l)
    (λ x e q. bind-settled (check (is_mark (get_or x 0 0)) InvalidByteOrder 0) _ b e (check-settled _ InvalidByteOrder 0 b e)
    (λ u f r. bind-settled (check (is_kind (get_or x 1 0)) InvalidMessageType 0) _ b f (check-settled _ InvalidMessageType 0 b f)
    (λ v g s. ret-settled (fixed_in x, size_in x) b g)))

fixed-is : (b : List ℕ) (h : Fixed × ℕ) (e : ℕ) → fixed_r b 0 ≡ got h e → (h ≡ (fixed_in (take 12 b), size_in (take 12 b))) × (e ≡ 12)
unfolding fixed_r
fixed-is b h e q =
    let i = bytes-bind-inv 12 0 checks b 0 h e q in
    let x : List ℕ = i.0 in
    let c1 = check-bind-inv (is_mark (get_or x 0 0)) InvalidByteOrder 0 (λ z. check (is_kind (get_or x 1 0)) InvalidMessageType 0 >> ret (fixed_in x, size_in x)) b i.1 h e i.6 in
    let c2 = check-bind-inv (is_kind (get_or x 1 0)) InvalidMessageType 0 (λ z. ret (fixed_in x, size_in x)) b i.1 h e c1.1 in
    let w = ret_inv (fixed_in x, size_in x) b i.1 h e c2.1 in
    (sym w.0 ∙ ap (λ (y : List ℕ). (fixed_in y, size_in y)) i.3, omega (arith, w.1, i.4.end, i.2))

-- the field table: its length is what bytes 12 to 15 say
module _ (b : List ℕ) (l : 16 ≤ length b) where
  length-settled : (o : Order) → Settled (length_r o) b 12
  unfolding length_r
  length-settled o =
      bind-settled here (λ p. bytes 4 p >>= λ x. ret (load o x)) b 12 (here-settled b 12)
      (λ p e q. (
      let i = at_here b 12 p e q in
      let m : e + 4 ≤ length b = omega (arith, i.1) in
      bind-settled (bytes 4 p) (λ x. ret (load o x)) b e (bytes-settled 4 p b e m) (λ x f r. ret-settled (load o x) b f)
      ))

  length-is : (o : Order) (n e : ℕ) → length_r o b 12 ≡ got n e → (n ≡ load o (take 4 (drop 12 b))) × (e ≡ 16)
  unfolding length_r
  length-is o n e q =
      let i = bytes-bind-inv 4 12 (λ x. ret (load o x)) b 12 n e (sym (here-bind (λ p. bytes 4 p >>= λ x. ret (load o x)) b 12) ∙ q) in
      let w = ret_inv (load o i.0) b i.1 n e i.6 in
      (sym w.0 ∙ ap (load o) i.3, omega (arith, w.1, i.4.end, i.2))

  module _ (o : Order) (t : ℕ) (states : load o (take 4 (drop 12 b)) ≡ t) (there : 16 + t ≤ length b) where
    table-settled : Settled (table_r o) b 12
    unfolding table_r
    table-settled =
        bind-settled (length_r o) (λ n. inside n (many n (field_r o))) b 12 (length-settled o)
        (λ n e q. (
        let i = length-is o n e q in
        let m : e + n ≤ length b = omega (arith, i.0, i.1, states) in
        window-settled NotEnoughBytes (λ p. 0) n (many n (field_r o)) b e m
        ))

    table_is : (fs : List Field) (e : ℕ) → table_r o b 12 ≡ got fs e → e ≡ 16 + t
    unfolding table_r
    table_is fs e q =
        let i = bind_inv (length_r o) (λ n. inside n (many n (field_r o))) b 12 fs e q in
        let j = length-is o i.0 i.1 i.2 in
        let w = window-end NotEnoughBytes (λ p. 0) i.0 (many i.0 (field_r o)) (fields_r-bounded o i.0) (fields_r-full o i.0) b i.1 fs e i.3 in
        omega (arith, w, j.0, j.1, states)

-- all before the body's values
abbrev typed : (Fixed × ℕ) → List Field → R Opened
typed h fs = accept (parse (body_signature fs)) 0 >>= λ ts. ret (h, (fs, ts))

abbrev padded : (Fixed × ℕ) → List Field → R Opened
padded h fs = padding 8 >> typed h fs

abbrev completed : (Fixed × ℕ) → List Field → R Opened
completed h fs = check (complete h.0.kind fs) InvalidHeaderFields 0 >> padded h fs

abbrev tabled : (Fixed × ℕ) → R Opened
tabled h = table_r h.0.order >>= λ fs. completed h fs

-- a message of which the bytes are there that its first 16 state
pub record There (b : List ℕ) : Type 0 where
  pub head : 16 ≤ length b
  pub all : message_size b ≤ length b

module _ (b : List ℕ) (th : There b) where
  abbrev first : Fixed × ℕ
  first = (fixed_in (take 12 b), size_in (take 12 b))

  abbrev body_place : ℕ
  body_place = 16 + table_in b + gap 8 (16 + table_in b)

  states : load first.0.order (take 4 (drop 12 b)) ≡ table_in b
  unfolding table_in
  states = refl

  holds : body_place + size_in (take 12 b) ≤ length b
  unfolding message_size
  holds = th.all

  padded-settled : (h : Fixed × ℕ) (fs : List Field) (e : ℕ) → e ≡ 16 + table_in b → Settled (padded h fs) b e
  padded-settled h fs e q =
      let m : e + gap 8 e ≤ length b = rw q (omega (arith, holds)) in
      bind-settled (padding 8) (λ z. typed h fs) b e (padding-settled 8 b e m)
      (λ z f r. bind-settled (accept (parse (body_signature fs)) 0) (λ ts. ret (h, (fs, ts))) b f (accept-settled (parse (body_signature fs)) 0 b f)
      (λ ts g s. ret-settled (h, (fs, ts)) b g))

  check-place : (a : Bool) (k : Fault) (p e f : ℕ) (u : Unit {0}) → check a k p b e ≡ got u f → f ≡ e
  unfolding check
  check-place true k p e f u q = cc
  check-place false k p e f u q = absurd (let z : ◌≡◌ {A = ℕ} 0 1 = cc in omega arith)

  completed-settled : (h : Fixed × ℕ) (fs : List Field) (e : ℕ) → e ≡ 16 + table_in b → Settled (completed h fs) b e
  completed-settled h fs e q =
      bind-settled (check (complete h.0.kind fs) InvalidHeaderFields 0) (λ z. padded h fs) b e (check-settled _ InvalidHeaderFields 0 b e)
      (λ u f r. padded-settled h fs f (check-place _ InvalidHeaderFields 0 e f u r ∙ q))

  tabled-settled : (h : Fixed × ℕ) (e : ℕ) → h ≡ first → e ≡ 12 → Settled (tabled h) b e
  tabled-settled h e i j =
      let s : load h.0.order (take 4 (drop 12 b)) ≡ table_in b = ap (λ (x : Fixed × ℕ). load x.0.order (take 4 (drop 12 b))) i ∙ states in
      let m : 16 + table_in b ≤ length b = omega (arith, holds) in
      subst (λ (x : ℕ). Settled (tabled h) b x) (sym j)
      (bind-settled (table_r h.0.order) (λ fs. completed h fs) b 12 (table-settled b th.head h.0.order (table_in b) s m)
      (λ fs f r. completed-settled h fs f (table_is b th.head h.0.order (table_in b) s m fs f r)))

  open-settled : Settled open_r b 0
  unfolding open_r
  open-settled =
      bind-settled fixed_r tabled b 0 (fixed-settled b (omega (arith, th.head)))
      (λ h e q. (let i = fixed-is b h e q in tabled-settled h e i.0 i.1))

  accept-place : (q : Parsed) (p e f : ℕ) (ts : List Ty) → accept q p b e ≡ got ts f → f ≡ e
  unfolding accept ret fail
  accept-place (types us) p e f ts q = cc
  accept-place (refused k) p e f ts q = absurd (let z : ◌≡◌ {A = ℕ} 0 1 = cc in omega arith)

  -- what is read before the body's values: the first 12 bytes, and up to where the body begins
  open_is : (h : Opened) (e : ℕ) → open_r b 0 ≡ got h e → (h.0 ≡ first) × (e ≡ body_place)
  unfolding open_r
  open_is h e q =
      let i = bind_inv fixed_r tabled b 0 h e q in
      let f = fixed-is b i.0 i.1 i.2 in
      let o = i.0.0.order in
      let s : load o (take 4 (drop 12 b)) ≡ table_in b = ap (λ (x : Fixed × ℕ). load x.0.order (take 4 (drop 12 b))) f.0 ∙ states in
      let at12 : tabled i.0 b 12 ≡ got h e = subst (λ (x : ℕ). tabled i.0 b x ≡ got h e) f.1 i.3 in
      let j = bind_inv (table_r o) (λ fs. completed i.0 fs) b 12 h e at12 in
      let te : j.1 ≡ 16 + table_in b = table_is b th.head o (table_in b) s (omega (arith, holds)) j.0 j.1 j.2 in
      let k = check-bind-inv (complete i.0.0.kind j.0) InvalidHeaderFields 0 (λ z. padded i.0 j.0) b j.1 h e j.3 in
      let p = bind_inv (padding 8) (λ z. typed i.0 j.0) b j.1 h e k.1 in
      let pe : p.1 ≡ j.1 + gap 8 j.1 = (padding-sound 8 b j.1 p.0 p.1 p.2).end ∙ ap (λ (x : ℕ). j.1 + x) (length-pad 8 j.1) in
      let a = bind_inv (accept (parse (body_signature j.0)) 0) (λ ts. ret (i.0, (j.0, ts))) b p.1 h e p.3 in
      let ae = accept-place (parse (body_signature j.0)) 0 p.1 a.1 a.0 a.2 in
      let w = ret_inv (i.0, (j.0, a.0)) b a.1 h e a.3 in
      let pe' : p.1 ≡ body_place = pe ∙ ap (λ (x : ℕ). x + gap 8 x) te in
      (sym (ap (λ (x : Opened). x.0) w.0) ∙ f.0, sym w.1 ∙ ae ∙ pe')

  abbrev bodied : Opened → R Message
  bodied h = inside h.0.1 (body_r h.0.0.order h.1.1) >>= λ vs. ret (message_of h vs)

  -- whatever follows
  pub read-settled : (c : List ℕ) → read_message (b ++ c) 0 ≡ read_message b 0
  unfolding read_message at_zero
  read-settled =
      bind-settled (at_zero open_r) bodied b 0 (λ c. ap to_zero (open-settled c))
      (λ h e q. (
      let i = open_is h e (at_zero-inv open_r b 0 h e q) in
      let m : e + h.0.1 ≤ length b = omega (arith, holds, i.1, ap (λ (x : Fixed × ℕ). x.1) i.0) in
      let r = body_r h.0.0.order h.1.1 in
      bind-settled (inside h.0.1 r) (λ vs. ret (message_of h vs)) b e (window-settled NotEnoughBytes (λ p. 0) h.0.1 r b e m)
      (λ vs f s. ret-settled (message_of h vs) b f)
      ))

-- the first 16 bytes say how long a message is, whatever follows
pub size-stays : (b c : List ℕ) → 16 ≤ length b → message_size (b ++ c) ≡ message_size b
unfolding message_size table_in
size-stays b c h = rw (take-append-le 12 b c (omega arith), take_part 4 12 b c (omega arith))
