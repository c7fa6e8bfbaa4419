-- The words of a line, and what a word gives as a number or as bytes.
use Rattle.std.specs.Prelude.{ℕ, zero, suc, ◌+◌, ◌-◌, ◌/◌, ◌%◌, ◌^◌, Bool, true, false, cond, List, [], ◌∷◌, length, take, drop, get_or, leb, ltb, eqb, Option, Some, None, count_by}
use Rattle.std.proofs.lemmas.List.Edits.{sets}
use Rattle.std.specs.List.{position_or_len}
use Rattle.question_lines.specs.Digits.{all_digits, value_from, pairs}

-- where the byte first stands, or the length
abbrev pub index_of : ℕ → List ℕ → ℕ
index_of b s = position_or_len (λ x. eqb x b) s

-- where the first space stands, or the length
abbrev pub word_end : List ℕ → ℕ
word_end s = index_of 32 s

-- how many of the bytes are this one
abbrev pub occurrences : ℕ → List ℕ → ℕ
occurrences b s = count_by (λ x. eqb x b) s

-- the first words of a line, as many as are asked for: each goes up to a space or the end, the next begins behind that space, and past the end each is empty
unfoldable pub words_of : ℕ → List ℕ → List (List ℕ)
words_of zero s = []
words_of (suc n) s = take (word_end s) s ∷ words_of n (drop (word_end s + 1) s)

-- one or more decimal digits that spell a number below 2 ^ 64
unfoldable pub number_of : List ℕ → Option ℕ
number_of s = cond (ltb 0 (length s)) (cond (all_digits 10 s) (cond (ltb (value_from 0 s) (2 ^ 64)) (Some (value_from 0 s)) None) None) None

-- what is answered, and every byte of the buffer afterwards
pub record Took : Type 0 where
  pub answer : Option ℕ
  pub after : List ℕ

abbrev pub unless : Bool → List ℕ → Took → Took
unless true out t = t
unless false out t = record { answer = None; after = out }

-- a word of one byte gives bytes only if it is `-`, which is none; any other is one or more pairs of digits, and the buffer holds what they spell
unfoldable pub taken_of : List ℕ → List ℕ → Took
taken_of s out =
    cond (eqb (length s) 1) (unless (eqb (get_or s 0 0) 45) out (record { answer = Some 0; after = out }))
    (unless (ltb 0 (length s)) out
    (unless (eqb (length s % 2) 0) out
    (unless (leb (length s / 2) (length out)) out
    (unless (all_digits 16 s) out
    (record { answer = Some (length s / 2); after = sets out 0 (pairs s) })))))

-- the bytes from one place to another are put at the front, and the others stay
abbrev pub moved_down : ℕ → ℕ → List ℕ → List ℕ
moved_down from to s = sets s 0 (take (to - from) (drop from s))
