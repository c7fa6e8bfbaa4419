-- Rows of marks follow the grammar's stack, step for step.
use Prim.Native.Nat.{ℕ, suc, ◌+◌, ◌-◌, ◌<◌, ◌≤◌}
use mathlib.Core.Path.{◌≡◌, refl, ap, sym, subst, ◌∙◌}
use mathlib.Core.Bool.{Bool, true, false, ◌&&◌, and_assoc}
use mathlib.Core.List.{List, [], ◌∷◌}
use mathlib.Core.Logic.{◌⊎◌, inl, inr}
use native.Mathlib.Omega.{arith}
use lib.ListN.{length, get_or, set, length-append, length-set}
use lib.Seq.{get_or-set_same, get_or-set_other}
use Rattle.meaning.specs.Types.{Form, in_array, loose, Base, Ty, base, arr, dict, struct, variant, Tys, one}
use Rattle.meaning.specs.Signature.{shallow, nest, nests, is_key, Stack, floor, open0, open1, in_arr, need_key, need_val, need_end, Step, to, bad, put, put_base, begin, curl, close, uncurl}
use Rattle.meaning.specs.declared.Fault.{Fault}
use Rattle.meaning.specs.declared.Fault.TheVariants.{InvalidSignature, EmptyStruct}
use Rattle.signature.specs.declared.State.{State}
use Rattle.signature.specs.declared.Mark.{Mark}
use Rattle.signature.specs.declared.Mark.TheVariants.{Floor, Empty, Fields, Value, End, Key, Array}
use Rattle.std.specs.Prelude.{Result, Ok, Err}
use Rattle.signature.specs.Marks.{mark, height, structs_in, arrays_in, whole_in, fine_in, Held, Stands, Follows, Takes, Leaf, Whole, Ready, WholeReady, Begins, Goes, After}
use Rattle.signature.proofs.Nesting.{nest-array, nest-struct, nest-all, nest-fields}

-- the last mark says what was opened last
top-mark : (k : Stack) (m : List Mark) → Held k m → get_or m (height k) Floor ≡ mark k
unfolding Held height
top-mark (floor ts) m h = h
top-mark (open0 k) m h = h.0
top-mark (open1 fs k) m h = h.0
top-mark (in_arr k) m h = h.0
top-mark (need_key f k) m h = h.0
top-mark (need_val f c k) m h = h.0
top-mark (need_end f c e k) m h = h.0

mark-at : (k : Stack) (m : List Mark) {i : ℕ} → Held k m → i ≡ height k → get_or m i Floor ≡ mark k
mark-at k m h e = ap (λ (i : ℕ). get_or m i Floor) e ∙ top-mark k m h

pub has-mark : {k : Stack} {m : List Mark} {o : State} → Stands k m o → get_or m o.top Floor ≡ mark k
has-mark {k} {m} s = mark-at k m s.held s.top

pub the-mark : {k : Stack} {m : List Mark} {o : State} {v : Mark} → Stands k m o → get_or m o.top Floor ≡ v → mark k ≡ v
the-mark s e = sym (has-mark s) ∙ e

pub not-mark : {k : Stack} {m : List Mark} {o : State} {v : Mark} → Stands k m o → (get_or m o.top Floor ≡ v → ⊥) → mark k ≡ v → ⊥
not-mark s f e = f (has-mark s ∙ e)

-- a stack with a given mark is what that mark stands for
unfoldable pub Handler : (Stack → Type 0) → Mark → Type 0
Handler P Floor = (ts : List Ty) → P (floor ts)
Handler P Empty = (k : Stack) → P (open0 k)
Handler P Fields = (fs : Tys) (k : Stack) → P (open1 fs k)
Handler P Value = (f : Form) (c : Base) (k : Stack) → P (need_val f c k)
Handler P End = (f : Form) (c : Base) (e : Ty) (k : Stack) → P (need_end f c e k)
Handler P Key = (f : Form) (k : Stack) → P (need_key f k)
Handler P Array = (k : Stack) → P (in_arr k)

at-own : (P : Stack → Type 0) (k : Stack) → Handler P (mark k) → P k
unfolding Handler
at-own P (floor ts) h = h ts
at-own P (open0 k) h = h k
at-own P (open1 fs k) h = h fs k
at-own P (in_arr k) h = h k
at-own P (need_key f k) h = h f k
at-own P (need_val f c k) h = h f c k
at-own P (need_end f c d k) h = h f c d k

pub by-mark : (P : Stack → Type 0) (k : Stack) (v : Mark) → mark k ≡ v → Handler P v → P k
by-mark P k v e = subst (λ (n : Mark). Handler P n → P k) e (at-own P k)

pub at-floor : (k : Stack) → height k ≡ 0 → mark k ≡ Floor
unfolding height
at-floor (floor ts) e = refl
at-floor (open0 k) e = absurd (omega (arith, e))
at-floor (open1 fs k) e = absurd (omega (arith, e))
at-floor (in_arr k) e = absurd (omega (arith, e))
at-floor (need_key f k) e = absurd (omega (arith, e))
at-floor (need_val f c k) e = absurd (omega (arith, e))
at-floor (need_end f c d k) e = absurd (omega (arith, e))

-- a mark above leaves those below
held-set : (k : Stack) (m : List Mark) (j : ℕ) (v : Mark) → height k < j → Held k m → Held k (set m j v)
unfolding Held height
held-set (floor ts) m j v l h = get_or-set_other m j 0 v Floor (λ e. omega arith) ∙ h
held-set (open0 k) m j v l h = (get_or-set_other m j (suc (height k)) v Floor (λ e. omega arith) ∙ h.0, held-set k m j v (omega arith) h.1)
held-set (open1 fs k) m j v l h = (get_or-set_other m j (suc (height k)) v Floor (λ e. omega arith) ∙ h.0, held-set k m j v (omega arith) h.1)
held-set (in_arr k) m j v l h = (get_or-set_other m j (suc (height k)) v Floor (λ e. omega arith) ∙ h.0, held-set k m j v (omega arith) h.1)
held-set (need_key f k) m j v l h = (get_or-set_other m j (suc (height k)) v Floor (λ e. omega arith) ∙ h.0, held-set k m j v (omega arith) h.1)
held-set (need_val f c k) m j v l h = (get_or-set_other m j (suc (height k)) v Floor (λ e. omega arith) ∙ h.0, held-set k m j v (omega arith) h.1)
held-set (need_end f c e k) m j v l h = (get_or-set_other m j (suc (height k)) v Floor (λ e. omega arith) ∙ h.0, held-set k m j v (omega arith) h.1)

-- a stack's new mark
marked : (k : Stack) (m : List Mark) (j : ℕ) (v : Mark) → j ≡ suc (height k) → j < length m → Held k m → (get_or (set m j v) (suc (height k)) Floor ≡ v) × Held k (set m j v)
marked k m j v e l h = (ap (λ (i : ℕ). get_or (set m j v) i Floor) (sym e) ∙ get_or-set_same m j v Floor l, held-set k m j v (omega arith) h)

-- each open struct or array has its mark
low : (k : Stack) → (structs_in k ≤ height k) × (arrays_in k ≤ height k)
unfolding height structs_in arrays_in
low (floor ts) = (omega arith, omega arith)
low (open0 k) = let h = low k in (omega (arith, h.0), omega (arith, h.1))
low (open1 fs k) = let h = low k in (omega (arith, h.0), omega (arith, h.1))
low (in_arr k) = let h = low k in (omega (arith, h.0), omega (arith, h.1))
low (need_key f k) = let h = low k in (omega (arith, h.0), omega (arith, h.1))
low (need_val f c k) = let h = low k in (omega (arith, h.0), omega (arith, h.1))
low (need_end f c d k) = let h = low k in (omega (arith, h.0), omega (arith, h.1))

pub structs-low : {k : Stack} {m : List Mark} {o : State} → Stands k m o → o.structs ≤ o.top
structs-low {k} s = omega (arith, (low k).0, s.structs, s.top)

pub arrays-low : {k : Stack} {m : List Mark} {o : State} → Stands k m o → o.arrays ≤ o.top
arrays-low {k} s = omega (arith, (low k).1, s.arrays, s.top)

-- the last mark becomes v, and the stack j above b with it; the numbers are those of j already
swapped : (b j : Stack) (v : Mark) (n : ℕ) (m : List Mark) {o : State} → length m ≡ 256 → Held b m → o.top ≡ suc (height b)
    → ((l : List Mark) → (get_or l (suc (height b)) Floor ≡ v) × Held b l → Held j l) → height j ≡ suc (height b)
    → o.structs ≡ structs_in j → o.arrays ≡ arrays_in j → o.types ≡ whole_in j → o.fine ≡ fine_in j
    → o.top < 256 → o.top + o.types ≤ n → Goes j (set m o.top v) n (Ok o)
swapped b j v n m {o} long held top marks high s a t f l q =
    record {
      state = o;
      is = refl;
      follows = record {
        stands = record { long = simp length-set long; held = marks (set m o.top v) (marked b m o.top v top (omega arith) held); top = omega arith; structs = s; arrays = a; types = t };
        fine = f;
      };
      small = q;
    }

-- the state with other numbers
abbrev pub placed : State → ℕ → ℕ → State
placed o t a = record { top = t; structs = o.structs; arrays = a; types = o.types; fine = o.fine }

abbrev pub counted : State → State
counted o = record { top = o.top; structs = o.structs; arrays = o.arrays; types = o.types + 1; fine = o.fine }

-- what a step leaves, with a whole type to be put, once the last mark is gone
pub record Closes (x : Step) (m : List Mark) (o : State) (n : ℕ) (left : State) : Type 0 where
  pub above : 1 ≤ o.top
  pub inside : 1 ≤ n
  pub whole : Whole x m left

-- the stack b below the last mark takes the type t
closes-below : (b : Stack) (t : Ty) {x : Step} (m : List Mark) {o : State} {n : ℕ} {q : State} → x ≡ put b t → 1 ≤ o.top → 1 ≤ n → length m ≡ 256 → Held b m
    → q.top ≡ height b → q.structs ≡ structs_in b → q.arrays ≡ arrays_in b → q.types ≡ whole_in b
    → (y : Bool) → nest t (structs_in b) (arrays_in b) ≡ y → q.fine ≡ (fine_in b && y) → Closes x m o n q
closes-below b t m i u v l h p s a w y e f =
    record {
      above = u;
      inside = v;
      whole = record {
        stack = b;
        type = t;
        is = i;
        takes = record { stands = record { long = l; held = h; top = p; structs = s; arrays = a; types = w }; fine = f ∙ ap (λ (z : Bool). fine_in b && z) (sym e) };
      };
    }

-- a whole type closes an array that waits for it
pub unarray : {x : Step} {m : List Mark} {o : State} → Whole x m o → get_or m o.top Floor ≡ Array → Closes x m o o.arrays (placed o (o.top - 1) (o.arrays - 1))
unfolding Handler Held height structs_in arrays_in whole_in fine_in put
unarray {x} {m} {o} w e = by-mark (λ k. x ≡ put k w.type → Takes k w.type m o → Closes x m o o.arrays (placed o (o.top - 1) (o.arrays - 1))) w.stack Array (the-mark w.takes.stands e)
    (λ k i h.
    let s = h.stands in
    closes-below k (arr w.type) m i (omega (arith, s.top)) (omega (arith, s.arrays)) s.long s.held.1 (omega (arith, s.top)) s.structs
    (omega (arith, s.arrays)) s.types _ (nest-array w.type (structs_in k) (arrays_in k)) h.fine)
    w.is w.takes

-- the last mark takes the type
module _ {x : Step} {m : List Mark} {o : State} (n : ℕ) (w : Whole x m o) where
  by-stack : (v : Mark) → get_or m o.top Floor ≡ v → (l : List Mark) (r : Result State Fault) → Handler (λ k. Takes k w.type m o → After (put k w.type) l n r) v → After x l n r
  by-stack v e l r h = rw w.is (by-mark (λ k. Takes k w.type m o → After (put k w.type) l n r) w.stack v (the-mark w.takes.stands e) h w.takes)

  pub put-floor : get_or m o.top Floor ≡ Floor → o.top + o.types + 1 ≤ n → After x m n (Ok (counted o))
  unfolding Handler Held height structs_in arrays_in whole_in fine_in put
  put-floor e l = by-stack Floor e m (Ok (counted o)) (λ ts h.
      let s = h.stands in
      record {
        state = counted o;
        is = refl;
        follows = record {
          stands = record { long = s.long; held = s.held; top = s.top; structs = s.structs; arrays = s.arrays; types = omega (arith, s.types, length-append ts (w.type ∷ [])) };
          fine = h.fine ∙ sym (nest-all ts w.type);
        };
        small = omega arith;
      })

  pub put-empty : get_or m o.top Floor ≡ Empty → o.top < 256 → o.top + o.types ≤ n → After x (set m o.top Fields) n (Ok o)
  unfolding Handler Held height structs_in arrays_in whole_in fine_in put nest
  put-empty e b l = by-stack Empty e (set m o.top Fields) (Ok o) (λ k h.
      let s = h.stands in
      swapped k (open1 (one w.type) k) Fields n m s.long s.held.1 s.top (λ l x. x) refl s.structs s.arrays s.types h.fine b l)

  pub put-fields : get_or m o.top Floor ≡ Fields → o.top + o.types ≤ n → After x m n (Ok o)
  unfolding Handler Held height structs_in arrays_in whole_in fine_in put
  put-fields e l = by-stack Fields e m (Ok o) (λ fs k h.
      let s = h.stands in
      record {
        state = o;
        is = refl;
        follows = record {
          stands = record { long = s.long; held = s.held; top = s.top; structs = s.structs; arrays = s.arrays; types = s.types };
          fine =
              h.fine
              ∙ and_assoc (fine_in k) (nests fs (suc (structs_in k)) (arrays_in k)) (nest w.type (suc (structs_in k)) (arrays_in k))
              ∙ ap (λ (b : Bool). fine_in k && b) (sym (nest-fields fs w.type (suc (structs_in k)) (arrays_in k)));
        };
        small = l;
      })

  pub put-value : get_or m o.top Floor ≡ Value → o.top < 256 → o.top + o.types ≤ n → After x (set m o.top End) n (Ok o)
  unfolding Handler Held height structs_in arrays_in whole_in fine_in put
  put-value e b l = by-stack Value e (set m o.top End) (Ok o) (λ f c k h.
      let s = h.stands in
      swapped k (need_end f c w.type k) End n m s.long s.held.1 s.top (λ l x. x) refl s.structs s.arrays s.types h.fine b l)

  -- where a key or a bracket is due, no type is taken
  pub put-none : (get_or m o.top Floor ≡ Floor → ⊥) → (get_or m o.top Floor ≡ Empty → ⊥) → (get_or m o.top Floor ≡ Fields → ⊥) → (get_or m o.top Floor ≡ Value → ⊥)
      → (get_or m o.top Floor ≡ Array → ⊥) → After x m n (Err InvalidSignature)
  unfolding put
  put-none f0 f1 f2 f3 f6 = go w.stack w.is (has-mark w.takes.stands)
    where
      go : (k : Stack) → x ≡ put k w.type → get_or m o.top Floor ≡ mark k → After x m n (Err InvalidSignature)
      go (need_key f k) i e = rw i refl
      go (need_end f c d k) i e = rw i refl
      go (floor ts) i e = absurd (f0 e)
      go (in_arr k) i e = absurd (f6 e)
      go (open0 k) i e = absurd (f1 e)
      go (open1 fs k) i e = absurd (f2 e)
      go (need_val f c k) i e = absurd (f3 e)

-- a step that is refused
pub refuses : {x : Step} {f : Fault} (m : List Mark) (n : ℕ) → x ≡ bad f → After x m n (Err f)
refuses m n e = rw e refl

-- where there was room for one more mark there is room for the type that is to be put
pub whole_ready : {m : List Mark} {o : State} (r : Ready m o) (x : Step) (n : ℕ) (q : State) → Closes x m o n q → q.top + q.types ≤ o.top + o.types → WholeReady m q
whole_ready r x n q h l = record { to = x; whole = h.whole; room = omega (arith, r.room) }

-- a bound may be larger
pub wider : (x : Step) (m : List Mark) (n w : ℕ) (r : Result State Fault) → n ≤ w → After x m n r → After x m w r
wider (to k) m n w r l a = record { state = a.state; is = a.is; follows = a.follows; small = omega (arith, a.small) }
wider (bad f) m n w r l a = a

pub leaf-base : (b : Base) → Leaf (base b)
unfolding nest
leaf-base b s a = refl

pub leaf-variant : Leaf variant
unfolding nest
leaf-variant s a = refl

-- a type of one code lies where the stack is
abbrev pub judged : State → Bool → State
judged o b = record { top = o.top; structs = o.structs; arrays = o.arrays; types = o.types; fine = o.fine && b }

pub leaf-takes : {k : Stack} {m : List Mark} {o : State} {b : Bool} (t : Ty) → Leaf t → Follows k m o → b ≡ shallow o.structs o.arrays → Takes k t m (judged o b)
leaf-takes {k} {m} {o} {b} t l f e =
    let s = f.stands in
    record {
      stands = record { long = s.long; held = s.held; top = s.top; structs = s.structs; arrays = s.arrays; types = s.types };
      fine = rw (f.fine, e, s.structs, s.arrays) (ap (λ (a : Bool). fine_in k && a) (sym (l (structs_in k) (arrays_in k))));
    }

-- a basic type where a key is due
pub key-yes : {k : Stack} {m : List Mark} {o : State} (b : Base) (n : ℕ) → Follows k m o → get_or m o.top Floor ≡ Key → is_key b ≡ true → o.top < 256 → o.top + o.types ≤ n → After (put_base k b) (set m o.top Value) n (Ok o)
unfolding Handler Held height structs_in arrays_in whole_in fine_in put_base
key-yes {k} {m} {o} b n f e y l q = by-mark (λ k. Follows k m o → After (put_base k b) (set m o.top Value) n (Ok o)) k Key (the-mark f.stands e)
    (λ g k h.
    let s = h.stands in
    rw y (swapped k (need_val g b k) Value n m s.long s.held.1 s.top (λ l x. x) refl s.structs s.arrays s.types h.fine l q))
    f

pub key-no : (k : Stack) (b : Base) → mark k ≡ Key → is_key b ≡ false → put_base k b ≡ bad InvalidSignature
unfolding Handler put_base
key-no k b e y = by-mark (λ k. put_base k b ≡ bad InvalidSignature) k Key e (λ f k. rw y)

pub not_key : (k : Stack) (b : Base) → (mark k ≡ Key → ⊥) → put_base k b ≡ put k (base b)
unfolding put_base put
not_key (need_key f k) b e = absurd (e refl)
not_key (floor ts) b e = refl
not_key (in_arr k) b e = refl
not_key (open0 k) b e = refl
not_key (open1 fs k) b e = refl
not_key (need_val f c k) b e = refl
not_key (need_end f c d k) b e = refl

-- a type begins, or a key or a bracket is due
no-begin : (k n : Stack) → (mark k ≡ End) ⊎ (mark k ≡ Key) → begin k n ≡ bad InvalidSignature
unfolding Handler
no-begin k n (inl e) = by-mark (λ k. begin k n ≡ bad InvalidSignature) k End e (λ f c d k. refl)
no-begin k n (inr e) = by-mark (λ k. begin k n ≡ bad InvalidSignature) k Key e (λ f k. refl)

can-begin : (k n : Stack) → (mark k ≡ End → ⊥) → (mark k ≡ Key → ⊥) → begin k n ≡ to n
can-begin (need_key f k) n e g = absurd (g refl)
can-begin (need_end f c d k) n e g = absurd (e refl)
can-begin (floor ts) n e g = refl
can-begin (in_arr k) n e g = refl
can-begin (open0 k) n e g = refl
can-begin (open1 fs k) n e g = refl
can-begin (need_val f c k) n e g = refl

abbrev pub raised : State → State
raised o = record { top = o.top + 1; structs = o.structs; arrays = o.arrays; types = o.types; fine = o.fine }

module _ {k n : Stack} {v : Mark} {m : List Mark} {o : State} (b : Begins k n v m o) where
  pub begin-none : (z : ℕ) → (get_or m o.top Floor ≡ End) ⊎ (get_or m o.top Floor ≡ Key) → After (begin k n) m z (Err InvalidSignature)
  begin-none z (inl e) = refuses m z (no-begin k n (inl (sym (mark-at k m b.held b.top) ∙ e)))
  begin-none z (inr e) = refuses m z (no-begin k n (inr (sym (mark-at k m b.held b.top) ∙ e)))

  pub begin-one : (z : ℕ) → (get_or m o.top Floor ≡ End → ⊥) → (get_or m o.top Floor ≡ Key → ⊥) → o.top < 255 → o.top + 1 + o.types ≤ z → After (begin k n) (set m (o.top + 1) v) z (Ok (raised o))
  begin-one z e g l q =
      let w = mark-at k m b.held b.top in
      rw (can-begin k n (λ h. e (w ∙ h)) (λ h. g (w ∙ h)))
      (swapped k n v z m b.long b.held (omega (arith, b.top)) (λ l h. b.marked l h.1 h.0) b.higher b.structs b.arrays b.types b.fine (omega arith) q)

-- one array more, or one struct
abbrev pub deeper : State → State
deeper o = record { top = o.top; structs = o.structs; arrays = o.arrays + 1; types = o.types; fine = o.fine }

abbrev pub within : State → State
within o = record { top = o.top; structs = o.structs + 1; arrays = o.arrays; types = o.types; fine = o.fine }

module _ {k : Stack} {m : List Mark} {o : State} (f : Follows k m o) where
  pub begins-array : Begins k (in_arr k) Array m (deeper o)
  unfolding Held height structs_in arrays_in whole_in fine_in
  begins-array =
      let s = f.stands in
      record { long = s.long; held = s.held; marked = λ l h e. (e, h); higher = refl; top = s.top; structs = s.structs; arrays = omega (arith, s.arrays); types = s.types; fine = f.fine }

  pub begins-dict : Begins k (need_key loose k) Key m (deeper o)
  unfolding Held height structs_in arrays_in whole_in fine_in
  begins-dict =
      let s = f.stands in
      record { long = s.long; held = s.held; marked = λ l h e. (e, h); higher = refl; top = s.top; structs = s.structs; arrays = omega (arith, s.arrays); types = s.types; fine = f.fine }

  pub begins-struct : Begins k (open0 k) Empty m (within o)
  unfolding Held height structs_in arrays_in whole_in fine_in
  begins-struct =
      let s = f.stands in
      record { long = s.long; held = s.held; marked = λ l h e. (e, h); higher = refl; top = s.top; structs = omega (arith, s.structs); arrays = s.arrays; types = s.types; fine = f.fine }

-- { after an array's mark is that array's dict
pub curl-array : {k : Stack} {m : List Mark} {o : State} (n : ℕ) → Follows k m o → get_or m o.top Floor ≡ Array → o.top < 256 → o.top + o.types ≤ n → After (curl k) (set m o.top Key) n (Ok o)
unfolding Handler Held height structs_in arrays_in whole_in fine_in
curl-array {k} {m} {o} n f e l q = by-mark (λ k. Follows k m o → After (curl k) (set m o.top Key) n (Ok o)) k Array (the-mark f.stands e)
    (λ k h.
    let s = h.stands in
    swapped k (need_key in_array k) Key n m s.long s.held.1 s.top (λ l x. x) refl s.structs s.arrays s.types h.fine l q)
    f

pub curl-loose : (k : Stack) → (mark k ≡ Array → ⊥) → curl k ≡ begin k (need_key loose k)
curl-loose (in_arr k) e = absurd (e refl)
curl-loose (floor ts) e = refl
curl-loose (open0 k) e = refl
curl-loose (open1 fs k) e = refl
curl-loose (need_key f k) e = refl
curl-loose (need_val f c k) e = refl
curl-loose (need_end f c d k) e = refl

-- a bracket closes a struct with a field
abbrev pub closed : State → State
closed o = record { top = o.top - 1; structs = o.structs - 1; arrays = o.arrays; types = o.types; fine = o.fine }

pub close-fields : {k : Stack} {m : List Mark} {o : State} → Follows k m o → get_or m o.top Floor ≡ Fields → Closes (close k) m o o.structs (closed o)
unfolding Handler Held height structs_in arrays_in whole_in fine_in
close-fields {k} {m} {o} f e = by-mark (λ k. Follows k m o → Closes (close k) m o o.structs (closed o)) k Fields (the-mark f.stands e)
    (λ fs k h.
    let s = h.stands in
    closes-below k (struct fs) m refl (omega (arith, s.top)) (omega (arith, s.structs)) s.long s.held.1 (omega (arith, s.top))
    (omega (arith, s.structs)) s.arrays s.types _ (nest-struct fs (structs_in k) (arrays_in k)) h.fine)
    f

pub close-empty : (k : Stack) → mark k ≡ Empty → close k ≡ bad EmptyStruct
unfolding Handler
close-empty k e = by-mark (λ k. close k ≡ bad EmptyStruct) k Empty e (λ k. refl)

pub close-none : (k : Stack) → (mark k ≡ Fields → ⊥) → (mark k ≡ Empty → ⊥) → close k ≡ bad InvalidSignature
close-none (open1 fs k) e g = absurd (e refl)
close-none (open0 k) e g = absurd (g refl)
close-none (floor ts) e g = refl
close-none (in_arr k) e g = refl
close-none (need_key f k) e g = refl
close-none (need_val f c k) e g = refl
close-none (need_end f c d k) e g = refl

-- a bracket closes a dict with key and value
pub uncurl-end : {k : Stack} {m : List Mark} {o : State} → Follows k m o → get_or m o.top Floor ≡ End → Closes (uncurl k) m o o.arrays (placed o (o.top - 1) (o.arrays - 1))
unfolding Handler Held height structs_in arrays_in whole_in fine_in nest
uncurl-end {k} {m} {o} f e = by-mark (λ k. Follows k m o → Closes (uncurl k) m o o.arrays (placed o (o.top - 1) (o.arrays - 1))) k End (the-mark f.stands e)
    (λ g c d k h.
    let s = h.stands in
    closes-below k (dict g c d) m refl (omega (arith, s.top)) (omega (arith, s.arrays)) s.long s.held.1 (omega (arith, s.top)) s.structs
    (omega (arith, s.arrays)) s.types _ (nest-array d (structs_in k) (arrays_in k)) h.fine)
    f

pub uncurl-none : (k : Stack) → (mark k ≡ End → ⊥) → uncurl k ≡ bad InvalidSignature
uncurl-none (need_end f c d k) e = absurd (e refl)
uncurl-none (floor ts) e = refl
uncurl-none (in_arr k) e = refl
uncurl-none (open0 k) e = refl
uncurl-none (open1 fs k) e = refl
uncurl-none (need_key f k) e = refl
uncurl-none (need_val f c k) e = refl
