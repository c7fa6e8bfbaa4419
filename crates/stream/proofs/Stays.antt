-- What further bytes do to the answer about the next message: of every call of `next_message` whose answer meets its contract, as the checker
-- generates it. Refused stays refused, whole stays whole, and cut off is said only while fewer bytes are there than the message states.
use Prim.Native.Nat.{ℕ, ◌≤◌, ◌<◌}
use native.Mathlib.Omega.{arith}
use mathlib.Core.Bool.{Bool, true, false}
use mathlib.Core.List.{List, ◌++◌}
use mathlib.Core.Path.{◌≡◌, refl, ap, sym, ◌∙◌}
use mathlib.Core.Logic.{◌⊎◌, inl, inr}
use lib.Dec.{ltb}
use lib.ListN.{length, length-append}
use borrow.Author.Tests.{lt-ltb, le-ltb}
use Rattle.meaning.specs.declared.Length.{Length}
use Rattle.meaning.specs.declared.Refusal.{Refusal}
use Rattle.meaning.specs.declared.Header.{Header}
use Rattle.std.specs.Prelude.{Result, Ok, Err}
use Rattle.meaning.specs.Faults.{is_short}
use Rattle.meaning.specs.Message.{Message}
use Rattle.meaning.specs.Reader.{Res, got, fault}
use Rattle.meaning.specs.ReadMessage.{read_message}
use Rattle.meaning.specs.Header.{header_from, read_header}
use Rattle.meaning.proofs.Local.{short, Cmp, is_le, is_gt, cmp}
use Rattle.meaning.proofs.MessageLocal.{read_message-local}
use Rattle.meaning.proofs.Framing.{There, read-settled, size-stays}
use Rattle.meaning.proofs.Promises.{Answered}
use Rattle.stream.specs.declared.Next.{Next}
use Rattle.stream.specs.declared.Next.TheVariants.{Whole, Cut, Refused}
use Rattle.stream.specs.Next.{stated_size, refused_as, next_from, next_of}
use Rattle.stream.proofs.next_message.Reads as next-message

no_true : {X : Type 0} → true ≡ false → X
no_true h = absurd (let z : ◌≡◌ {A = ℕ} 0 1 = cc in omega arith)

-- what an answer comes from
abbrev is_refused : Next → Bool
is_refused (Whole h) = false
is_refused (Cut s) = false
is_refused (Refused x) = true

abbrev is_whole : Next → Bool
is_whole (Whole h) = true
is_whole (Cut s) = false
is_whole (Refused x) = false

refused-from : (q : Result Header Refusal) (n s : ℕ) (x : Refusal) → next_from q n s ≡ Refused x
    → (q ≡ Err x) × ((is_short x.fault ≡ false) ⊎ (ltb n s ≡ false))
refused-from (Ok h) n s x e = no_true (sym (ap is_refused e))
refused-from (Err y) n s x e = go (is_short y.fault) (ltb n s) refl refl
  where
    same : (k f : Bool) → is_short y.fault ≡ k → ltb n s ≡ f → refused_as k f s y ≡ Refused x
    same k f i j = rw (← i, ← j) e

    is : Refused y ≡ Refused x → ◌≡◌ {A = Result Header Refusal} (Err y) (Err x)
    is h = let z : y ≡ x = cc in ap (λ (w : Refusal). Err w) z

    of : Refused y ≡ Refused x → y ≡ x
    of h = cc

    go : (k f : Bool) → is_short y.fault ≡ k → ltb n s ≡ f → (◌≡◌ {A = Result Header Refusal} (Err y) (Err x)) × ((is_short x.fault ≡ false) ⊎ (ltb n s ≡ false))
    go true true i j = no_true (sym (ap is_refused (same true true i j)))
    go true false i j = (is (same true false i j), inr j)
    go false f i j = (is (same false f i j), inl (ap (λ (w : Refusal). is_short w.fault) (sym (of (same false f i j))) ∙ i))

whole_from : (q : Result Header Refusal) (n s : ℕ) (h : Header) → next_from q n s ≡ Whole h → q ≡ Ok h
whole_from (Ok g) n s h e = let z : g ≡ h = cc in ap (λ (w : Header). Ok w) z
whole_from (Err y) n s h e = go (is_short y.fault) (ltb n s) refl refl
  where
    go : (k f : Bool) → is_short y.fault ≡ k → ltb n s ≡ f → ◌≡◌ {A = Result Header Refusal} (Err y) (Ok h)
    go true true i j = no_true (sym (ap is_whole (rw (i, j) at e)))
    go true false i j = no_true (sym (ap is_whole (rw (i, j) at e)))
    go false f i j = no_true (sym (ap is_whole (rw i at e)))

ltb-le : (m n : ℕ) → ltb m n ≡ false → n ≤ m
ltb-le m n h = go (cmp n m)
  where
    go : Cmp n m → n ≤ m
    go (is_le t l) = l
    go (is_gt t l) = no_true (sym (lt-ltb m n l) ∙ h)

ltb-lt : (m n : ℕ) → ltb m n ≡ true → m < n
ltb-lt m n h = go (cmp n m)
  where
    go : Cmp n m → m < n
    go (is_le t l) = no_true (sym h ∙ le-ltb m n l)
    go (is_gt t l) = l

not-fewer : (k : Bool) (s : ℕ) (x : Refusal) → refused_as k false s x ≡ Refused x
not-fewer true s x = refl
not-fewer false s x = refl

abbrev is_cut : Next → Bool
is_cut (Whole h) = false
is_cut (Cut s) = true
is_cut (Refused x) = false

cut-from : (q : Result Header Refusal) (n s : ℕ) (l : Length) → next_from q n s ≡ Cut l → (l.0 ≡ s) × (n < s)
cut-from (Ok h) n s l e = no_true (sym (ap is_cut e))
cut-from (Err y) n s l e = go (is_short y.fault) (ltb n s) refl refl
  where
    go : (k f : Bool) → is_short y.fault ≡ k → ltb n s ≡ f → (l.0 ≡ s) × (n < s)
    go true true i j =
        let z : Cut (record { 0 = s }) ≡ Cut l = rw (i, j) at e in
        let w : record { 0 = s } ≡ l = cc in
        (sym (ap (λ (u : Length). u.0) w), ltb-lt n s j)
    go true false i j = no_true (sym (ap is_cut (rw (i, j) at e)))
    go false f i j = no_true (sym (ap is_cut (rw i at e)))

cut-next : (b : List ℕ) (l : Length) → next_of b ≡ Cut l → (l.0 ≡ stated_size b) × (length b < l.0)
unfolding next_of
cut-next b l q = let i = cut-from (read_header b) (length b) (stated_size b) l q in (i.0, omega (arith, i.0, i.1))

module _ (b c : List ℕ) where
  longer : length b ≤ length (b ++ c)
  longer = rw length-append (omega arith)

  -- the bytes that are there are those that the first 16 state
  stated-there : stated_size b ≤ length b → There b
  unfolding stated_size
  stated-there h = go (cmp 16 (length b))
    where
      go : Cmp 16 (length b) → There b
      go (is_le t l) = let e = le-ltb (length b) 16 l in record { head = l; all = rw e at h }
      go (is_gt t l) = absurd (let e = lt-ltb (length b) 16 l in let z : 16 ≤ length b = rw e at h in omega arith)

  stated-stays : There b → stated_size (b ++ c) ≤ length (b ++ c)
  unfolding stated_size
  stated-stays h =
      let l : 16 ≤ length (b ++ c) = omega (arith, longer, h.head) in
      rw (le-ltb (length (b ++ c)) 16 l, size-stays b c h.head) (omega (arith, longer, h.all))

  -- a refusal that is not too short is that of the longer buffer, and so is any, once all stated bytes are there
  final-header : (x : Refusal) → read_header b ≡ Err x → is_short x.fault ≡ false → read_header (b ++ c) ≡ Err x
  unfolding read_header
  final-header x q k = ap header_from (go (read_message b 0) refl q) ∙ q
    where
      go : (r : Res Message) → read_message b 0 ≡ r → header_from r ≡ Err x → read_message (b ++ c) 0 ≡ read_message b 0
      go (got m e) i j = absurd (let z : ◌≡◌ {A = ℕ} 0 1 = cc in omega arith)
      go (fault y) i j =
          let z : y ≡ x = cc in
          read_message-local.up b c 0 (omega arith) (ap short i ∙ ap (λ (w : Refusal). is_short w.fault) z ∙ k)

  there-header : There b → read_header (b ++ c) ≡ read_header b
  unfolding read_header
  there-header h = ap header_from (read-settled b h c)

  whole-header : (h : Header) → read_header b ≡ Ok h → read_header (b ++ c) ≡ Ok h
  unfolding read_header
  whole-header h q = ap header_from (go (read_message b 0) refl q) ∙ q
    where
      go : (r : Res Message) → read_message b 0 ≡ r → header_from r ≡ Ok h → read_message (b ++ c) 0 ≡ read_message b 0
      go (got m e) i j = read_message-local.up b c 0 (omega arith) (ap short i)
      go (fault y) i j = absurd (let z : ◌≡◌ {A = ℕ} 0 1 = cc in omega arith)

  refused-next : (x : Refusal) → next_of b ≡ Refused x → next_of (b ++ c) ≡ Refused x
  unfolding next_of
  refused-next x q = let i = refused-from (read_header b) (length b) (stated_size b) x q in go i.0 i.1
    where
      go : read_header b ≡ Err x → ((is_short x.fault ≡ false) ⊎ (ltb (length b) (stated_size b) ≡ false)) → next_of (b ++ c) ≡ Refused x
      go i (inl k) = rw (final-header x i k, k)
      go i (inr f) =
          let h = stated-there (ltb-le (length b) (stated_size b) f) in
          let e : ltb (length (b ++ c)) (stated_size (b ++ c)) ≡ false = le-ltb _ _ (stated-stays h) in
          rw (there-header h ∙ i, e) (not-fewer (is_short x.fault) (stated_size (b ++ c)) x)

  whole-next : (h : Header) → next_of b ≡ Whole h → next_of (b ++ c) ≡ Whole h
  unfolding next_of
  whole-next h q = rw (whole-header h (whole_from (read_header b) (length b) (stated_size b) h q))

abbrev pub Call : Type 0
Call = Answered next-message.Learnt

abbrev pub asked : Call → List ℕ
asked c = c.args.0.now

-- No message, whatever bytes follow
pub refused-stays : (c d : Call) (x : Refusal) → c.answer ≡ Refused x → (more : List ℕ) → asked d ≡ asked c ++ more → d.answer ≡ Refused x
refused-stays c d x q more e =
    d.meets.0 ∙ ap next_of e ∙ refused-next (asked c) more x (sym c.meets.0 ∙ q)

-- a message that was checked stays that message, with its length
pub whole-stays : (c d : Call) (h : Header) → c.answer ≡ Whole h → (more : List ℕ) → asked d ≡ asked c ++ more → d.answer ≡ Whole h
whole-stays c d h q more e =
    d.meets.0 ∙ ap next_of e ∙ whole-next (asked c) more h (sym c.meets.0 ∙ q)

-- cut off: the length that the first 16 bytes state, and fewer are there
pub cut-lacks : (c : Call) (s : Length) → c.answer ≡ Cut s → (s.0 ≡ stated_size (asked c)) × (length (asked c) < s.0)
cut-lacks c s q = cut-next (asked c) s (sym c.meets.0 ∙ q)
