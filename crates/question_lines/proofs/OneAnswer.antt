-- No second answer and no second buffer meet a contract of this crate's functions: each is an equation with a definition of what was passed.
use Prim.Native.Nat.{ℕ}
use mathlib.Core.List.{List, map}
use mathlib.Core.Path.{◌≡◌}
use Rattle.meaning.proofs.OneAnswer.{OneAnswer, OneBuffer, both}
use Rattle.question_lines.proofs.find.Reads as find
use Rattle.question_lines.proofs.head.Reads as head
use Rattle.question_lines.proofs.tail.Reads as tail
use Rattle.question_lines.proofs.first.Reads as first
use Rattle.question_lines.proofs.count.Reads as count
use Rattle.question_lines.proofs.words.Reads as words
use Rattle.question_lines.proofs.number_of.Reads as number_of_lem
use Rattle.question_lines.proofs.bytes_of.Reads as bytes_of
use Rattle.question_lines.proofs.move_down.Reads as move_down

-- of the bytes that an answer shows
abbrev pub OneText : {K : Type 0} {A R S : K → Type 0} → ((κs : K) → A κs → R κs → S κs → Type 0) → ((κs : K) → R κs → List ℕ) → Type 0
OneText {K} {A} {R} {S} L bytes = (κs : K) (a : A κs) (x y : R κs) (s t : S κs) → L κs a x s → L κs a y t → bytes κs x ≡ bytes κs y

-- of a part of an answer
abbrev pub OnePart : {K : Type 0} {A R S : K → Type 0} {P : Type 0} → ((κs : K) → A κs → R κs → S κs → Type 0) → ((κs : K) → R κs → P) → Type 0
OnePart {K} {A} {R} {S} L part = (κs : K) (a : A κs) (x y : R κs) (s t : S κs) → L κs a x s → L κs a y t → part κs x ≡ part κs y

pub one-part : OneText head.Learnt (λ κs r. r.now) × OneText tail.Learnt (λ κs r. r.now) × OneText first.Learnt (λ κs r. r.now)
one-part = (λ κs a x y s t h k. both h k, λ κs a x y s t h k. both h k, λ κs a x y s t h k. both h k)

-- of the bytes of each word, and of how many there are
pub one-words : OnePart words.Learnt (λ κs r. map (λ w. w.now) r.0) × OnePart words.Learnt (λ κs r. r.1)
one-words = (λ κs a x y s t h k. both h.0 k.0, λ κs a x y s t h k. both h.1 k.1)

pub one-find : OneAnswer find.Learnt
one-find κs a x y s t h k = both h.0 k.0

pub one_number : OneAnswer count.Learnt × OneAnswer number_of_lem.Learnt
one_number = (λ κs a x y s t h k. both h k, λ κs a x y s t h k. both h k)

pub one-bytes-of : OneAnswer bytes_of.Learnt × OneBuffer bytes_of.Learnt (λ κs s. s.1.0.now)
one-bytes-of = (λ κs a x y s t h k. both h.0 k.0, λ κs a x y s t h k. both h.1 k.1)

pub one-move-down-buffer : OneBuffer move_down.Learnt (λ κs s. s.0.now)
one-move-down-buffer κs a x y s t h k = both h k
