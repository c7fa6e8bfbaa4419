-- Demands 2 and 3 of the answer that a message gets.
use Prim.Native.Nat.{ℕ, ◌+◌, ◌-◌, ◌≤◌, ◌<◌}
use native.Mathlib.Omega.{arith}
use mathlib.Core.Bool.{Bool, true, false}
use mathlib.Core.List.{List, [], ◌∷◌, ◌++◌}
use mathlib.Core.Path.{◌≡◌, refl, ap, sym, subst, ◌∙◌}
use mathlib.Core.Logic.{◌↔◌, ◌≢◌, ◌⊎◌}
use lib.ListN.{length, take, length-append, take-append-drop}
use lib.Seq.{length-take-le, take-append_seam, take-append-le}
use lib.Dec.{T, eqb, eqb→eq, lit≤}
use Rattle.meaning.specs.Reader.{Res, got, fault}
use Rattle.meaning.proofs.Local.{short, same_first, cut_short}
use Rattle.meaning.specs.Types.{Fix, fix, str, path, sig, Ty, base, arr, dict, struct, variant, Of, Var}
use Rattle.meaning.specs.Signature.{parse, types, all_legal, spell_all}
use Rattle.meaning.proofs.SignatureLaws.{parse-complete}
use Rattle.std.specs.Prelude.{Err}
use Rattle.meaning.proofs.NumberLaws.{Bytes}
use Rattle.meaning.specs.Value.{Each, OkBase, Ok, OkVar}
use Rattle.meaning.specs.ReadValue.{taken, checked_of}
use Rattle.meaning.proofs.ValueDemands.{same_taken, taken-inv, refused-inv, is-final, short-inv}
use Rattle.meaning.proofs.Meets.{At, at_read}
use Rattle.meaning.specs.Message.{wants, Holds, Field, enc_field, OkField, text_of, text, body_signature, Message, encode_message, Proper, EncodesMessage}
use Rattle.meaning.specs.ReadMessage.{to_zero, at_zero, message_size, open_r, read_message, check_message}
use Rattle.meaning.specs.Header.{holds_text, text_from, lookup}
use Rattle.meaning.proofs.MessageLocal.{read_message-local}
use Rattle.meaning.proofs.MessageMeets.{message-sound, message-complete, message-size}
use Rattle.meaning.specs.declared.Refusal.{Refusal}
use Rattle.meaning.specs.Faults.{number_of, moved}
use Rattle.meaning.specs.declared.Order.{Order}

at-start : (b : List ℕ) (n : ℕ) → n ≤ length b → At b 0 (take n b) n
at-start b n h = record { end = omega (arith, length-take-le n b h); is = sym (take-append-drop n b) }

accepted : (b : List ℕ) (n : ℕ) → check_message b ≡ taken n → (m : Message) × (read_message b 0 ≡ got m n)
unfolding check_message
accepted b n q =
    let i = taken-inv 0 n (read_message b 0) q in
    let z : i.1 ≡ n = omega (arith, i.3) in
    (i.0, i.2 ∙ ap (λ (e : ℕ). got i.0 e) z)

accept : (b : List ℕ) (n : ℕ) (m : Message) → read_message b 0 ≡ got m n → check_message b ≡ taken n
unfolding check_message
accept b n m q = let z : n - 0 ≡ n = omega arith in ap (checked_of 0) q ∙ ap taken z

-- Demand 2: accepted with n exactly when the first n bytes are a message
pub exactly-messages : (b : List ℕ) → Bytes b → (n : ℕ) → (check_message b ≡ taken n) ↔ EncodesMessage b n
unfolding EncodesMessage
exactly-messages b y n = (there, back)
  where
    there : check_message b ≡ taken n → EncodesMessage b n
    there q =
        let i = accepted b n q in
        let s = message-sound b y i.0 n i.1 in
        let g = read_message-local.bound b 0 i.0 n (omega arith) i.1 in
        let z : length (encode_message i.0) ≡ n = omega (arith, s.1.end) in
        (g.1, (i.0, s.0, subst (λ (j : ℕ). take j b ≡ encode_message i.0) z (at_read b 0 (encode_message i.0) n s.1)))

    back : EncodesMessage b n → check_message b ≡ taken n
    back c =
        let m = c.1.0 in
        let a : At b 0 (take n b) n = at-start b n c.0 in
        accept b n m (message-complete b m n c.1.1 (subst (λ (x : List ℕ). At b 0 x n) c.1.2 a) c.0)

-- Demand 3. An accepted answer is that of every buffer with the same first bytes
pub same-messages : (b d : List ℕ) (n : ℕ) → check_message b ≡ taken n → take n d ≡ take n b → check_message d ≡ taken n
same-messages b d n q e =
    let i = accepted b n q in
    accept d n i.0 (same_first read_message read_message-local b d 0 i.0 n (omega arith) i.1 e)

-- a refusal other than 2 and 3 stays when bytes are appended
pub grown-messages : (b c : List ℕ) (x : Refusal) → check_message b ≡ Err x → number_of x.fault ≢ 2 → number_of x.fault ≢ 3 → check_message (b ++ c) ≡ Err x
unfolding check_message
grown-messages b c x q h2 h3 =
    let i = refused-inv 0 x (read_message b 0) q in
    let u = read_message-local.up b c 0 (omega arith) (ap short i ∙ is-final (number_of x.fault) h2 h3) in
    ap (checked_of 0) (u ∙ i)

-- a shorter cut of an accepted message gets 2 or 3
pub cut-messages : (b : List ℕ) (n k : ℕ) → check_message b ≡ taken n → k < n
    → (x : Refusal) × (check_message (take k b) ≡ Err x) × ((number_of x.fault ≡ 2) ⊎ (number_of x.fault ≡ 3))
unfolding check_message
cut-messages b n k q l =
    let i = accepted b n q in
    let c = cut_short read_message read_message-local b 0 i.0 n k (omega arith) i.1 (omega arith) l in
    let w = short-inv (read_message (take k b) 0) c in
    (w.0, ap (checked_of 0) w.1, w.2)

-- Messages back to back: whatever follows, the first ends at its own length, and its parts are its own
pub first-message : (m : Message) (c : List ℕ) → Proper m → read_message (encode_message m ++ c) 0 ≡ got m (length (encode_message m))
first-message m c k =
    let b : List ℕ = encode_message m ++ c in
    let l : length (encode_message m) ≤ length b = rw length-append (omega arith) in
    let a : At b 0 (take (length (encode_message m)) b) (length (encode_message m)) = at-start b (length (encode_message m)) l in
    message-complete b m (length (encode_message m)) k (subst (λ (x : List ℕ). At b 0 x (length (encode_message m))) (take-append_seam (encode_message m) c) a) l

pub back-to-back : (m : Message) (c : List ℕ) → Proper m → check_message (encode_message m ++ c) ≡ taken (length (encode_message m))
back-to-back m c k = accept (encode_message m ++ c) (length (encode_message m)) m (first-message m c k)

pub starts_with : (b c : List ℕ) (n : ℕ) → EncodesMessage b n → check_message (b ++ c) ≡ taken n
unfolding EncodesMessage
starts_with b c n h =
    let m = h.1.0 in
    let a : At b 0 (take n b) n = at-start b n h.0 in
    let q : read_message b 0 ≡ got m n = message-complete b m n h.1.1 (subst (λ (x : List ℕ). At b 0 x n) h.1.2 a) h.0 in
    same-messages b (b ++ c) n (accept b n m q) (take-append-le n b c h.0)

-- the same bytes are one message
pub one-message : (m w : Message) → Proper m → Proper w → encode_message m ≡ encode_message w → m ≡ w
one-message m w k l e =
    let p = first-message m [] k in
    let q = first-message w [] l in
    let r : read_message (encode_message m ++ []) 0 ≡ got w (length (encode_message w)) = subst (λ (x : List ℕ). read_message (x ++ []) 0 ≡ got w (length (encode_message w))) (sym e) q in
    cc

-- no start of a message is a message
pub no_part : (b : List ℕ) → Bytes b → (n k : ℕ) → EncodesMessage b n → EncodesMessage b k → n ≡ k
no_part b y n k h l =
    let p : check_message b ≡ taken n = (exactly-messages b y n).1 h in
    let q : check_message b ≡ taken k = (exactly-messages b y k).1 l in
    same_taken n k (sym p ∙ q)

-- faults before the body's values have position 0
pub open-at-zero : (b : List ℕ) (x : Refusal) → at_zero open_r b 0 ≡ fault x → x.place.0 ≡ 0
unfolding at_zero
open-at-zero b x q = go (open_r b 0) q
  where
    go : {A : Type 0} (r : Res A) → to_zero r ≡ fault x → x.place.0 ≡ 0
    go (got v e) h = absurd (let z : ◌≡◌ {A = ℕ} 0 1 = cc in omega arith)
    go {A} (fault y) h = let z : moved 0 y ≡ x = cc in sym (ap (λ (u : Refusal). u.place.0) z)

-- field 8 of an accepted table spells types: the reader never refuses there
sig-text : (o : Order) (t : Ty) (v : Of t (Var 15)) (off : ℕ) → t ≡ base sig → OkVar o 16 (t, v) off → (ts : List Ty) × (parse (text_of [] (t, v)) ≡ types ts)
unfolding OkVar Ok OkBase
sig-text o (base (fix c)) v off e k = absurd (let z : fix c ≡ sig = cc in no-fix c z)
  where
    no-fix : (c : Fix) → fix c ≡ sig → ⊥
    no-fix c h = let z : ◌≡◌ {A = ℕ} 0 1 = cc in omega arith
sig-text o (base str) v off e k = absurd (let z : ◌≡◌ {A = ℕ} 0 1 = cc in omega arith)
sig-text o (base path) v off e k = absurd (let z : ◌≡◌ {A = ℕ} 0 1 = cc in omega arith)
sig-text o (base sig) v off e k =
    let g = k.2.1 in
    (g.0, ap parse g.2 ∙ parse-complete g.0 g.1 (subst (λ (x : List ℕ). length x ≤ 255) g.2 g.3))
sig-text o (arr d) v off e k = absurd (let z : ◌≡◌ {A = ℕ} 0 1 = cc in omega arith)
sig-text o (dict f c d) v off e k = absurd (let z : ◌≡◌ {A = ℕ} 0 1 = cc in omega arith)
sig-text o (struct fs) v off e k = absurd (let z : ◌≡◌ {A = ℕ} 0 1 = cc in omega arith)
sig-text o variant v off e k = absurd (let z : ◌≡◌ {A = ℕ} 0 1 = cc in omega arith)

pub spelled-types : (o : Order) (fs : List Field) (off : ℕ) → Each (enc_field o) (OkField o) fs off → (ts : List Ty) × (parse (body_signature fs) ≡ types ts)
unfolding Each text OkField wants all_legal spell_all
spelled-types o [] off k = ([], parse-complete [] tt (lit≤ tt))
spelled-types o (f ∷ fs) off k = go (eqb f.0 8) refl (spelled-types o fs (off + length (enc_field o f off)) k.1)
  where
    go : (x : Bool) → eqb f.0 8 ≡ x → (ts : List Ty) × (parse (body_signature fs) ≡ types ts) → (ts : List Ty) × (parse (body_signature (f ∷ fs)) ≡ types ts)
    go true e ih =
        let c8 : f.0 ≡ 8 = eqb→eq f.0 8 (subst T (sym e) tt) in
        let h : f.1.0 ≡ base sig = subst (λ (c : ℕ). Holds (wants c) f.1.0) c8 k.0.0.1 in
        rw (e, text) (sig-text o f.1.0 f.1.1 _ h k.0.1)
    go false e ih = rw (e, text) ih

-- an accepted message's length is what its first 16 bytes say
pub accepted-size : (b : List ℕ) → Bytes b → (n : ℕ) → check_message b ≡ taken n → n ≡ message_size b
accepted-size b y n q =
    let i = accepted b n q in
    let s = message-sound b y i.0 n i.1 in
    message-size b i.0 n s.0 s.1

-- the lookup finds the text of the message's parts
pub looked-up : (m : Message) (b d : List ℕ) (k n : ℕ) → read_message b 0 ≡ got m n → holds_text k ≡ true → lookup b k d ≡ text d k m.fields
unfolding lookup
looked-up m b d k n q l = rw (l, lookup) (ap (text_from d k) q)
