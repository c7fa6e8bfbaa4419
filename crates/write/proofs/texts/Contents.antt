-- What is to be written of a text: the tests that the code made say which content it is, and the stores that it made are those bytes.
use Prim.Native.Nat.{ℕ, ◌+◌, ◌^◌, ◌≤◌, ◌<◌}
use native.Mathlib.Omega.{arith}
use mathlib.Core.List.{List}
use mathlib.Core.Path.{◌≡◌, refl, ap, ◌∙◌}
use lib.ListN.{length, set, length-append}
use lib.Seq.{sets}
use borrow.Author.Tests.{lt-ltb, le-ltb}
use Rattle.meaning.specs.Number.{store}
use Rattle.meaning.specs.Value.{sized}
use Rattle.meaning.specs.Signature.{Parsed, types, refused, parse}
use Rattle.meaning.specs.ReadValue.{counted_of}
use Rattle.meaning.specs.Writers.{bytes, faulty, string_bytes, signature_from, signature_bytes}
use Rattle.meaning.specs.declared.Fault.TheVariants.{InvalidUtf8, StringContainsNullByte, TextTooLong}
use Rattle.std.specs.Prelude.{Ok, Err}
use Rattle.meaning.specs.declared.Fault.{Fault}
use Rattle.meaning.specs.declared.Refusal.{Refusal}
use Rattle.meaning.specs.Faults.{refusal}
use Rattle.meaning.specs.declared.Order.{Order}
use Rattle.meaning.specs.declared.Order.TheVariants.{Little}
use Rattle.meaning.proofs.NumberLaws.{length-store}
use Rattle.meaning.proofs.SignatureLaws.{parse-sound}
use Rattle.std.specs.Prelude.{Ok, Err}
use Rattle.text.specs.declared.BadText.TheVariants.{NotUtf8, HasZero}
use Rattle.text.specs.Verdict.{text_number, text_fault}
use Rattle.text.proofs.Scans.{text_says}
use Rattle.write.proofs.store.Stores.{sets-append, one_byte}

pub length-sized : (o : Order) (w : ℕ) (s : List ℕ) → w + length s + 1 ≡ length (sized o w s)
unfolding sized
length-sized o w s = rw (length-append, length-append, length-store) (omega arith)

-- the length, the bytes, the zero: three stores after one another
pub sized-stores : (o : Order) (w : ℕ) (s : List ℕ) (at : ℕ) (l m n : List ℕ) → m ≡ sets l at (store o w (length s)) → n ≡ sets m (at + w) s
    → set n (at + (w + length s)) 0 ≡ sets l at (sized o w s)
unfolding sized
sized-stores o w s at l m n p q =
    let e : at + (w + length s) ≡ at + w + length s = omega arith in
    let f : at + length (store o w (length s)) ≡ at + w = ap (λ (k : ℕ). at + k) (length-store o w (length s)) in
    rw (e, q, p, sets-append, f, sets-append) refl

-- a string, by the verdict on it
module _ (o : Order) (s : List ℕ) where
  pub too_long : 4294967295 < length s → string_bytes o s ≡ faulty TextTooLong
  too_long h = rw (le-ltb (length s) (256 ^ 4) (omega arith))

  module _ (h : length s ≤ 4294967295) where
    pub fine : text_number (Ok tt) ≡ text_fault s → string_bytes o s ≡ bytes (sized o 4 s)
    fine e = let t = text_says (Ok tt) s e in rw (lt-ltb (length s) (256 ^ 4) (omega arith), t.0, t.1)

    pub not-utf8 : text_number (Err NotUtf8) ≡ text_fault s → string_bytes o s ≡ faulty InvalidUtf8
    not-utf8 e = let t = text_says (Err NotUtf8) s e in rw (lt-ltb (length s) (256 ^ 4) (omega arith), t)

    pub has-zero : text_number (Err HasZero) ≡ text_fault s → string_bytes o s ≡ faulty StringContainsNullByte
    has-zero e = let t = text_says (Err HasZero) s e in rw (lt-ltb (length s) (256 ^ 4) (omega arith), t.0, t.1)

-- a signature, by the count of its types
spells : (o : Order) (s : List ℕ) (p : Parsed) (n : ℕ) → parse s ≡ p → Ok n ≡ counted_of p → (length s ≤ 255) × (signature_from o s p ≡ bytes (sized o 1 s))
spells o s (types ts) n e h = ((parse-sound s ts e).2, refl)
spells o s (refused k) n e h = absurd (let z : ◌≡◌ {A = ℕ} 0 1 = cc in omega arith)

pub signature-small : (s : List ℕ) (n : ℕ) → Ok n ≡ counted_of (parse s) → length s ≤ 255
signature-small s n h = (spells Little s (parse s) n refl h).0

-- one byte of length is the same in either order
sized-one : (o : Order) (s : List ℕ) → sized o 1 s ≡ sized Little 1 s
unfolding sized
sized-one o s = rw (one_byte o (length s), one_byte Little (length s))

pub is-signature : (o : Order) (s : List ℕ) (n : ℕ) → Ok n ≡ counted_of (parse s) → signature_bytes o s ≡ bytes (sized Little 1 s)
is-signature o s n h = (spells o s (parse s) n refl h).1 ∙ ap bytes (sized-one o s)

faults : (o : Order) (s : List ℕ) (p : Parsed) (x : Refusal) → Err x ≡ counted_of p
    → (k : Fault) × (signature_from o s p ≡ faulty k) × (x ≡ refusal k 0)
faults o s (types ts) x h = absurd (let z : ◌≡◌ {A = ℕ} 0 1 = cc in omega arith)
faults o s (refused k) x h = (k, refl, cc)

pub not-signature : (o : Order) (s : List ℕ) (x : Refusal) → Err x ≡ counted_of (parse s)
    → (k : Fault) × (signature_bytes o s ≡ faulty k) × (x ≡ refusal k 0)
not-signature o s x h = faults o s (parse s) x h
