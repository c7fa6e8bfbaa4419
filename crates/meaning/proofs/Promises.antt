-- Demands 2 and 3 as sentences about a contract, as the generated `Learnt` of a function states it: of a check of values, and of one of messages.
-- `told` reads an answer as what a caller is told, so the same sentences serve an enum of the library and a struct that C gets.
use Prim.Native.Nat.{ℕ, ◌+◌, ◌≤◌, ◌<◌}
use native.Mathlib.Omega.{arith}
use mathlib.Core.List.{List, ◌++◌}
use mathlib.Core.Path.{◌≡◌, refl, ap, sym, ◌∙◌}
use mathlib.Core.Logic.{◌↔◌, ◌≢◌, ◌⊎◌, inl, inr}
use lib.ListN.{length, take}
use Rattle.meaning.specs.declared.Order.{Order}
use Rattle.meaning.specs.declared.Fault.{Fault}
use Rattle.meaning.specs.declared.Fault.TheVariants.{BadOffset, NotEnoughBytes, NotEnoughBytesForCollection, PaddingContainedData, InvalidBoolean, InvalidUtf8, StringContainsNullByte, MissingTerminator, InvalidObjectPath, InvalidSignature, EmptySignature, EmptyStruct, SignatureTooLong, NestingTooDeep, WrongSignature, VariantTooDeep, InvalidByteOrder, InvalidMessageType, NoSignature, InvalidHeaderField, InvalidHeaderFields, BodyLeft, NoRoom, BadAlignment, TextTooLong, BadArgument}
use Rattle.meaning.specs.declared.Refusal.{Refusal}
use Rattle.std.specs.Prelude.{Result, Ok, Err}
use Rattle.meaning.specs.declared.Length.{Length}
use Rattle.meaning.specs.Faults.{number_of}
use Rattle.meaning.specs.Types.{Ty}
use Rattle.meaning.specs.Signature.{parse}
use Rattle.meaning.specs.Value.{Encodes}
use Rattle.meaning.specs.Message.{EncodesMessage}
use Rattle.meaning.specs.ReadValue.{taken, the, only_one, check_value}
use Rattle.meaning.specs.ReadMessage.{check_message}
use Rattle.meaning.proofs.NumberLaws.{Bytes}
use Rattle.meaning.proofs.ValueDemands.{exactly, same_bytes, grows, cuts}
use Rattle.meaning.proofs.MessageDemands.{exactly-messages, same-messages, grown-messages, cut-messages}

-- what a caller is told: number 0 and a length, or a refusal's number and position
pub record Told : Type 0 where
  pub number : ℕ
  pub position : ℕ
  pub length : ℕ

abbrev pub accepts : ℕ → Told
accepts n = record { number = 0; position = 0; length = n }

abbrev pub refuses : Refusal → Told
refuses x = record { number = number_of x.fault; position = x.place.0; length = 0 }

abbrev pub told_of : Result Length Refusal → Told
told_of (Ok n) = accepts n.0
told_of (Err x) = refuses x

-- "Too short" means 2 and 3
abbrev pub TooShort : Told → Type 0
TooShort k = (k.number ≡ 2) ⊎ (k.number ≡ 3)

-- settled: accepted, or refused for good
abbrev pub Final : Told → Type 0
Final k = (k.number ≢ 0) × (k.number ≢ 2) × (k.number ≢ 3)

-- number 0 is no refusal's
pub no_zero : (f : Fault) → number_of f ≢ 0
no_zero BadOffset h = omega (arith, h)
no_zero NotEnoughBytes h = omega (arith, h)
no_zero NotEnoughBytesForCollection h = omega (arith, h)
no_zero PaddingContainedData h = omega (arith, h)
no_zero InvalidBoolean h = omega (arith, h)
no_zero InvalidUtf8 h = omega (arith, h)
no_zero StringContainsNullByte h = omega (arith, h)
no_zero MissingTerminator h = omega (arith, h)
no_zero InvalidObjectPath h = omega (arith, h)
no_zero InvalidSignature h = omega (arith, h)
no_zero EmptySignature h = omega (arith, h)
no_zero EmptyStruct h = omega (arith, h)
no_zero SignatureTooLong h = omega (arith, h)
no_zero NestingTooDeep h = omega (arith, h)
no_zero WrongSignature h = omega (arith, h)
no_zero VariantTooDeep h = omega (arith, h)
no_zero InvalidByteOrder h = omega (arith, h)
no_zero InvalidMessageType h = omega (arith, h)
no_zero NoSignature h = omega (arith, h)
no_zero InvalidHeaderField h = omega (arith, h)
no_zero InvalidHeaderFields h = omega (arith, h)
no_zero BodyLeft h = omega (arith, h)
no_zero NoRoom h = omega (arith, h)
no_zero BadAlignment h = omega (arith, h)
no_zero TextTooLong h = omega (arith, h)
no_zero BadArgument h = omega (arith, h)

zero-accepts : (c : Result Length Refusal) → (told_of c).number ≡ 0 → told_of c ≡ accepts (told_of c).length
zero-accepts (Ok n) h = refl
zero-accepts (Err x) h = absurd (no_zero x.fault h)

told-taken : (c : Result Length Refusal) (n : ℕ) → told_of c ≡ accepts n → c ≡ taken n
told-taken (Ok m) n h = ap taken (ap (λ (k : Told). k.length) h)
told-taken (Err x) n h = absurd (no_zero x.fault (ap (λ (k : Told). k.number) h))

final-refused : (c : Result Length Refusal) → (told_of c).number ≢ 0 → (x : Refusal) × (c ≡ Err x)
final-refused (Ok n) h = absurd (h refl)
final-refused (Err x) h = (x, refl)

-- a call that was answered as a contract allows: lifetimes, arguments, the answer, and the arguments at exit
pub record Answered {K : Type 0} {A R S : K → Type 0} (contract : (κs : K) → A κs → R κs → S κs → Type 0) : Type 0 where
  pub lifetimes : K
  pub args : A lifetimes
  pub answer : R lifetimes
  pub exit : S lifetimes
  pub meets : contract lifetimes args answer exit

-- what is asked of a check of a value
pub record ValueAsked : Type 0 where
  pub order : Order
  pub sig : List ℕ
  pub buf : List ℕ
  pub off : ℕ

abbrev pub check_of : ValueAsked → Result Length Refusal
check_of q = check_value q.order q.sig q.buf q.off

-- the demands speak of a signature of one type, and of an offset inside the buffer or at its end
pub record Speaks (t : Ty) (q : ValueAsked) : Type 0 where
  pub one_type : only_one (parse q.sig) ≡ the t
  pub inside : q.off ≤ length q.buf

-- "Keep byte order, signature and offset"
pub record Keeps (p q : ValueAsked) : Type 0 where
  pub order : q.order ≡ p.order
  pub sig : q.sig ≡ p.sig
  pub off : q.off ≡ p.off

-- Demands 2 and 3 for values, of calls c and d: what each asked, and what it was told
pub record ValueDemands {C : Type 0} (asked : C → ValueAsked) (told : C → Told) : Type 0 where
  -- number 0 says accepted
  pub zero : (c : C) → (told c).number ≡ 0 → told c ≡ accepts (told c).length
  -- "accepted with length n exactly when the n bytes at the offset encode a value of that type"
  pub exactly : (c : C) (t : Ty) → Speaks t (asked c) → Bytes (asked c).buf → (n : ℕ)
      → (told c ≡ accepts n) ↔ Encodes (asked c).order t (asked c).buf (asked c).off n
  -- "If a buffer is accepted with length n, so is every buffer that has the same first offset plus n bytes, with the same n"
  pub same : (c d : C) (t : Ty) → Speaks t (asked c) → Speaks t (asked d) → Keeps (asked c) (asked d) → (n : ℕ) → told c ≡ accepts n
      → take ((asked c).off + n) (asked d).buf ≡ take ((asked c).off + n) (asked c).buf → told d ≡ accepts n
  -- "A refusal other than the two that mean "too short" stays, number and position, whatever is appended"
  pub stays : (c d : C) (t : Ty) → Speaks t (asked c) → Keeps (asked c) (asked d) → Final (told c)
      → (more : List ℕ) → (asked d).buf ≡ (asked c).buf ++ more → told d ≡ told c
  -- "Any shorter cut of an accepted buffer's first offset plus n bytes, made at or after the offset, gets one of those two"
  pub cut : (c d : C) (t : Ty) → Speaks t (asked c) → Keeps (asked c) (asked d) → (n m : ℕ) → told c ≡ accepts n
      → (asked c).off ≤ m → m < (asked c).off + n → (asked d).buf ≡ take m (asked c).buf → TooShort (told d)

-- a refusal's number and position, of what is known to be told of a check
refused-for : (k : Told) (c : Result Length Refusal) → k ≡ told_of c → Final k → (x : Refusal) × (c ≡ Err x) × (number_of x.fault ≢ 2) × (number_of x.fault ≢ 3)
refused-for k c e f =
    let i = final-refused c (λ z. f.0 (ap (λ (j : Told). j.number) e ∙ z)) in
    let n : k.number ≡ number_of i.0.fault = ap (λ (j : Told). j.number) (e ∙ ap told_of i.1) in
    (i.0, i.1, λ z. f.1 (n ∙ z), λ z. f.2 (n ∙ z))

short-told : (k : Told) (x : Refusal) → k ≡ refuses x → ((number_of x.fault ≡ 2) ⊎ (number_of x.fault ≡ 3)) → TooShort k
short-told k x e (inl h) = inl (ap (λ (j : Told). j.number) e ∙ h)
short-told k x e (inr h) = inr (ap (λ (j : Told). j.number) e ∙ h)

zero-told : (k : Told) (c : Result Length Refusal) → k ≡ told_of c → k.number ≡ 0 → k ≡ accepts k.length
zero-told k c e h =
    e ∙ zero-accepts c (sym (ap (λ (j : Told). j.number) e) ∙ h) ∙ sym (ap (λ (j : Told). accepts j.length) e)

-- they hold of every contract by which a caller is told what the check of the definitions says
module _ {C : Type 0} (asked : C → ValueAsked) (told : C → Told) (is : (c : C) → told c ≡ told_of (check_of (asked c))) where
  taken_of : (c : C) (n : ℕ) → told c ≡ accepts n → check_of (asked c) ≡ taken n
  taken_of c n h = told-taken (check_of (asked c)) n (sym (is c) ∙ h)

  -- a call that keeps all but the buffer
  kept : (c d : C) (b : List ℕ) (r : Result Length Refusal) → Keeps (asked c) (asked d) → (asked d).buf ≡ b
      → check_value (asked c).order (asked c).sig b (asked c).off ≡ r → told d ≡ told_of r
  kept c d b r k e h = let i : check_of (asked d) ≡ r = rw (k.order, k.sig, k.off, e) h in is d ∙ ap told_of i

  pub value-demands : ValueDemands asked told
  value-demands = record {
    zero = λ c h. zero-told (told c) (check_of (asked c)) (is c) h;
    exactly = λ c t p y n. (
        let q = asked c in
        let e = exactly q.order q.sig t p.one_type q.buf y q.off n p.inside in
        (λ h. e.0 (taken_of c n h), λ v. is c ∙ ap told_of (e.1 v))
        );
    same = λ c d t p r k n h e. (
        let q = asked c in
        let l : q.off ≤ length (asked d).buf = omega (arith, r.inside, k.off) in
        kept c d (asked d).buf (taken n) k refl
        (same_bytes q.order q.sig t p.one_type q.buf (asked d).buf q.off n p.inside (taken_of c n h) e l)
        );
    stays = λ c d t p k f more e. (
        let q = asked c in
        let i = refused-for (told c) (check_of q) (is c) f in
        kept c d (q.buf ++ more) (Err i.0) k e
        (grows q.order q.sig t p.one_type q.buf more q.off i.0 p.inside i.1 i.2 i.3)
        ∙ sym (is c ∙ ap told_of i.1)
        );
    cut = λ c d t p k n m h lo hi e. (
        let q = asked c in
        let i = cuts q.order q.sig t p.one_type q.buf q.off n m p.inside (taken_of c n h) lo hi in
        short-told (told d) i.0 (kept c d (take m q.buf) (Err i.0) k e i.1) i.2
        );
  }

-- Demands 2 and 3 for messages, from byte 0: what each call asked is the buffer
pub record MessageDemands {C : Type 0} (asked : C → List ℕ) (told : C → Told) : Type 0 where
  pub zero : (c : C) → (told c).number ≡ 0 → told c ≡ accepts (told c).length
  pub exactly : (c : C) → Bytes (asked c) → (n : ℕ) → (told c ≡ accepts n) ↔ EncodesMessage (asked c) n
  pub same : (c d : C) (n : ℕ) → told c ≡ accepts n → take n (asked d) ≡ take n (asked c) → told d ≡ accepts n
  pub stays : (c d : C) → Final (told c) → (more : List ℕ) → asked d ≡ asked c ++ more → told d ≡ told c
  pub cut : (c d : C) (n m : ℕ) → told c ≡ accepts n → m < n → asked d ≡ take m (asked c) → TooShort (told d)

module _ {C : Type 0} (asked : C → List ℕ) (told : C → Told) (is : (c : C) → told c ≡ told_of (check_message (asked c))) where
  message-taken : (c : C) (n : ℕ) → told c ≡ accepts n → check_message (asked c) ≡ taken n
  message-taken c n h = told-taken (check_message (asked c)) n (sym (is c) ∙ h)

  message-told : (d : C) (b : List ℕ) (r : Result Length Refusal) → asked d ≡ b → check_message b ≡ r → told d ≡ told_of r
  message-told d b r e h = let i : check_message (asked d) ≡ r = rw e h in is d ∙ ap told_of i

  pub message-demands : MessageDemands asked told
  message-demands = record {
    zero = λ c h. zero-told (told c) (check_message (asked c)) (is c) h;
    exactly = λ c y n. (
        let e = exactly-messages (asked c) y n in
        (λ h. e.0 (message-taken c n h), λ v. is c ∙ ap told_of (e.1 v))
        );
    same = λ c d n h e. message-told d (asked d) (taken n) refl (same-messages (asked c) (asked d) n (message-taken c n h) e);
    stays = λ c d f more e. (
        let i = refused-for (told c) (check_message (asked c)) (is c) f in
        message-told d (asked c ++ more) (Err i.0) e (grown-messages (asked c) more i.0 i.1 i.2 i.3)
        ∙ sym (is c ∙ ap told_of i.1)
        );
    cut = λ c d n m h l e. (
        let i = cut-messages (asked c) n m (message-taken c n h) l in
        short-told (told d) i.0 (message-told d (take m (asked c)) (Err i.0) e i.1) i.2
        );
  }
