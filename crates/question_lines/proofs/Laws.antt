-- What the answers of this crate cite: of a search, of the words of a line, of decimal numbers, and of pairs of digits.
use Rattle.std.proofs.Common.{◌≡◌, ℕ, zero, suc, ◌+◌, ◌-◌, ◌*◌, ◌/◌, ◌%◌, ◌^◌, ◌≤◌, ◌<◌, Bool, true, false, not, cond, ltb, leb, eqb}
use Rattle.std.proofs.Common.{List, [], ◌∷◌, ◌++◌, map, Option, Some, None, length, take, drop, get_or, set, inl, inr, refl, ap, sym, ◌∙◌, arith}
use Rattle.std.proofs.Common.{append_assoc, eq-eqb, take_all, zero-add, add-one, length-drop, length-take-le, drop-drop, get_or-take, get_or-drop, ltb-true, leb-true, le-ltb, lt-ltb, ne_eqb}
use Rattle.std.specs.Char.{digit_value}
use Rattle.std.specs.List.{between, position, copy_within}
use Rattle.std.specs.Simd.{first_chunks}
use Rattle.std.proofs.Math.Seq.{take-length, length-sets}
use Rattle.std.proofs.lemmas.Bool.{cases_eq}
use Rattle.std.proofs.lemmas.Bool.Decides.{Decides-eqb, nat_tests}
use Rattle.std.proofs.lemmas.List.{append-nil, drop_all, drop_more, map_push, take_more_set, at_drop_more, at_drop_all}
use Rattle.std.proofs.lemmas.List.Edits.{sets, sets-eq}
use Rattle.std.proofs.lemmas.List.Sums.{prefix_len-le-length, sum_by-cons, AllPass-from_list_all}
use Rattle.std.proofs.lemmas.Option.{cond_some}
use Rattle.std.proofs.lemmas.Slice.{between_from_start}
use Rattle.std.proofs.lemmas.Slice.Eq.{slice_eq-Decides}
use Rattle.std.specs.Cmp.Lexicographic.{pointwise}
use Rattle.question_lines.specs.Digits.{digit_of, all_digits, value_from, pairs}
use Rattle.question_lines.specs.Words.{index_of, word_end, occurrences, words_of, number_of, Took, unless, taken_of, moved_down}

-- what a search finds, and where it finds nothing
pub found_at : (b : ℕ) (s : List ℕ) (i : ℕ) → position (λ x. eqb x b) s ≡ Some i → index_of b s ≡ i
found_at b s i p = (cond_some _ _ _ p).1

pub found_none : (b : ℕ) (s : List ℕ) → position (λ x. eqb x b) s ≡ None → index_of b s ≡ length s
found_none b s p =
    let within = prefix_len-le-length (λ x. not (eqb x b)) s in
    grind (arith, nat_tests)

-- a search of all of a slice
pub found : (b : ℕ) (s : List ℕ) (r : ℕ) → r ≡ 0 + index_of b (between 0 (length s) s) → r ≡ index_of b s
found b s r p = p ∙ rw (zero-add, between_from_start, take-length)

gap_here : (b c : ℕ) (cs : List ℕ) → c ≡ b → occurrences b (c ∷ cs) ≡ 1 + occurrences b cs
gap_here b c cs same = sum_by-cons (λ x. cond (eqb x b) 1 0) c cs ∙ rw (eq-eqb c b same)

no_gap_here : (b c : ℕ) (cs : List ℕ) → (c ≡ b → ⊥) → occurrences b (c ∷ cs) ≡ occurrences b cs
no_gap_here b c cs other = sum_by-cons (λ x. cond (eqb x b) 1 0) c cs ∙ rw (ne_eqb c b other, zero-add)

-- a text without the byte is searched to its end
no_gap : (b : ℕ) (s : List ℕ) → occurrences b s ≡ 0 → index_of b s ≡ length s
no_gap b [] h = refl
no_gap b (c ∷ cs) h = elim (cases_eq c b) [
  | inl same ↦ absurd (omega (arith, h, gap_here b c cs same))
  | inr other ↦ rw (ne_eqb c b other) (omega (arith, no_gap b cs (sym (no_gap_here b c cs other) ∙ h)))
]

-- the last word of a line is what is left of it
pub last_word : (s : List ℕ) → occurrences 32 s ≡ 0 → (s ≡ take (word_end s) s) × ([] ≡ drop (word_end s + 1) s)
last_word s h =
    let end : word_end s ≡ length s = no_gap 32 s h in
    (sym (take_all (word_end s) s (omega arith)), sym (drop_all (word_end s + 1) s (omega arith)))

-- behind the first of the bytes there is one fewer
pub one_gap_less : (b : ℕ) (s : List ℕ) → occurrences b (drop (index_of b s + 1) s) ≡ occurrences b s - 1
one_gap_less b [] = refl
one_gap_less b (c ∷ cs) = elim (cases_eq c b) [
  | inl same ↦
      let front : index_of b (c ∷ cs) ≡ 0 = rw (eq-eqb c b same) in
      let rest : occurrences b cs ≡ occurrences b (c ∷ cs) - 1 = omega (arith, gap_here b c cs same) in
      ap (λ i. occurrences b (drop (i + 1) (c ∷ cs))) front ∙ rest
  | inr other ↦
      let place : index_of b (c ∷ cs) + 1 ≡ suc (index_of b cs + 1) = rw (ne_eqb c b other) (omega arith) in
      let rest : occurrences b (drop (index_of b cs + 1) cs) ≡ occurrences b (c ∷ cs) - 1 =
      one_gap_less b cs ∙ ap (λ n. n - 1) (sym (no_gap_here b c cs other)) in
      ap (λ i. occurrences b (drop i (c ∷ cs))) place ∙ rest
]

-- one word more
pub words-turn : {X : Type 0} (text : X → List ℕ) (ws : List X) (w : X) (n i : ℕ) (s rest : List ℕ) (all : List (List ℕ))
    → i < n → length ws ≡ n → text w ≡ take (word_end s) s → rest ≡ drop (word_end s + 1) s
    → map text (take i ws) ++ words_of (n - i) s ≡ all → map text (take (i + 1) (set ws i w)) ++ words_of (n - (i + 1)) rest ≡ all
unfolding words_of
words-turn text ws w n i s rest all h long word behind so_far =
    let left : n - i ≡ suc (n - (i + 1)) = omega arith in
    let part : words_of (n - i) s ≡ text w ∷ words_of (n - (i + 1)) rest = rw (left, word, behind) in
    let put : take (i + 1) (set ws i w) ≡ take i ws ++ w ∷ [] = take_more_set ws i w (omega arith) in
    rw (put, map_push text (take i ws) w, append_assoc) (rw part at so_far)

pub words-all : {X : Type 0} (text : X → List ℕ) (ws : List X) (n i : ℕ) (s : List ℕ) (all : List (List ℕ))
    → i ≡ n → length ws ≡ n → map text (take i ws) ++ words_of (n - i) s ≡ all → map text ws ≡ all
unfolding words_of
words-all text ws n i s all done long so_far =
    let none : n - i ≡ 0 = omega arith in
    let whole : take i ws ≡ ws = take_all i ws (omega arith) in
    sym (append-nil (map text ws)) ∙ rw (none, whole) at so_far

-- the library's copy to the front
pub moved : (s : List ℕ) (from to : ℕ) → from ≤ to → to ≤ length s → copy_within s from to 0 ≡ moved_down from to s
moved s from to order within =
    let part = take (to - from) (drop from s) in
    let long : length part ≡ to - from = length-take-le (to - from) (drop from s) (simp length-drop (omega arith)) in
    sym (sets-eq part s 0 (omega arith) ∙ rw long)

-- the library's decimal digits are those of this crate
same_digit : (c : ℕ) → digit_value c < 10 → digit_of c ≡ digit_value c
same_digit c h = grind (arith, nat_tests)

no_other_digit : (c : ℕ) → 10 ≤ digit_value c → 10 ≤ digit_of c
no_other_digit c h = grind (arith, nat_tests)

-- digits only make a number larger
grows : (n : ℕ) (s : List ℕ) → n ≤ value_from n s
unfolding value_from
grows n [] = omega arith
grows n (c ∷ cs) = omega (arith, grows (n * 10 + digit_of c) cs)

-- the number that digits behind another number lead to, if they are digits and 64 bits hold it
abbrev pub rest_of : ℕ → List ℕ → Option ℕ
rest_of n s = cond (all_digits 10 s) (cond (ltb (value_from n s) (2 ^ 64)) (Some (value_from n s)) None) None

pub rest_of_all : (s : List ℕ) → 0 < length s → number_of s ≡ rest_of 0 s
unfolding number_of
rest_of_all s h = rw (lt-ltb 0 (length s) h)

pub rest_of_none : (n : ℕ) (s : List ℕ) (i : ℕ) → n < 2 ^ 64 → length s ≤ i → rest_of n (drop i s) ≡ Some n
unfolding value_from
rest_of_none n s i h past = at_drop_all (rest_of n) s i past ∙ rw (lt-ltb n (2 ^ 64) h)

pub rest_at_digit : (n : ℕ) (s : List ℕ) (i : ℕ) → i < length s → digit_value (get_or s i 0) < 10
    → rest_of n (drop i s) ≡ rest_of (n * 10 + digit_value (get_or s i 0)) (drop (i + 1) s)
unfolding value_from
rest_at_digit n s i h d =
    let c = get_or s i 0 in
    let below : ltb (digit_of c) 10 ≡ true = lt-ltb (digit_of c) 10 (omega (arith, same_digit c d)) in
    at_drop_more (rest_of n) s i 0 h ∙ rw (below, ← same_digit c d)

pub rest_at_other : (n : ℕ) (s : List ℕ) (i : ℕ) → i < length s → (digit_value (get_or s i 0) < 10 → ⊥) → rest_of n (drop i s) ≡ None
rest_at_other n s i h other =
    let c = get_or s i 0 in
    let above : ltb (digit_of c) 10 ≡ false = le-ltb (digit_of c) 10 (no_other_digit c (omega arith)) in
    at_drop_more (rest_of n) s i 0 h ∙ rw above

none_either_way : (b : Bool) → cond {A = Option ℕ} b None None ≡ None
none_either_way true = refl
none_either_way false = refl

pub rest_of_large : (n : ℕ) (s : List ℕ) → 2 ^ 64 ≤ n → rest_of n s ≡ None
rest_of_large n s h =
    let above : ltb (value_from n s) (2 ^ 64) ≡ false = le-ltb (value_from n s) (2 ^ 64) (omega (arith, grows n s)) in
    rw above (none_either_way (all_digits 10 s))

pub digit_at : (base : ℕ) (s : List ℕ) (i : ℕ) → all_digits base s ≡ true → i < length s → digit_of (get_or s i 0) < base
digit_at base s i p h = ltb-true _ _ (AllPass-from_list_all _ s p i 0 h)

-- the pairs that the library takes a slice apart into
chunk_at : (s : List ℕ) (k i : ℕ) → i < k → get_or (first_chunks 2 k s) i [] ≡ take 2 (drop (2 * i) s)
chunk_at s zero i h = absurd (omega arith)
chunk_at s (suc k) zero h = refl
chunk_at s (suc k) (suc i) h =
    let at : 2 * suc i ≡ 2 + 2 * i = omega arith in
    chunk_at (drop 2 s) k i (omega arith) ∙ rw (drop-drop, at)

-- a byte of a pair is a digit
pub pair-digit : (s : List ℕ) (cs : List (List ℕ)) (i j k : ℕ)
    → cs ≡ first_chunks 2 (length s / 2) s → i < length s / 2 → j < 2 → k ≡ 2 * i + j → all_digits 16 s ≡ true
    → (get_or (get_or cs i []) j 0 ≡ get_or s k 0) × (digit_of (get_or (get_or cs i []) j 0) < 16)
pair-digit s cs i j k front h two at digits =
    let there : get_or (get_or cs i []) j 0 ≡ get_or s k 0 =
    rw (front, chunk_at s (length s / 2) i h, get_or-take 2 (drop (2 * i) s) j 0 two, at) (get_or-drop (2 * i) s j 0) in
    (there, rw there (digit_at 16 s k digits (omega arith)))

-- one pair is stored
pub pairs-turn : (l e s : List ℕ) (i : ℕ) → 2 * i + 1 < length s → sets l i (pairs (drop (2 * i) s)) ≡ e
    → sets (set l i (digit_of (get_or s (2 * i) 0) * 16 + digit_of (get_or s (2 * i + 1) 0))) (i + 1) (pairs (drop (2 * (i + 1)) s)) ≡ e
unfolding pairs
pairs-turn l e s i h p =
    let next : 2 * (i + 1) ≡ 2 * i + 1 + 1 = omega arith in
    let two : drop (2 * i) s ≡ get_or s (2 * i) 0 ∷ get_or s (2 * i + 1) 0 ∷ drop (2 * i + 1 + 1) s =
    drop_more s (2 * i) 0 (omega arith) ∙ ap (λ (t : List ℕ). get_or s (2 * i) 0 ∷ t) (drop_more s (2 * i + 1) 0 h) in
    rw (next, add-one i) (rw two at p)

-- `-` alone spells no bytes; the test is `==` of the library
pub of_dash : (s dash out : List ℕ) (r : Bool) → r ≡ pointwise eqb s dash → dash ≡ 45 ∷ [] → r ≡ true → taken_of s out ≡ record { answer = Some 0; after = out }
unfolding taken_of
of_dash s dash out r test is_dash holds =
    let same : s ≡ 45 ∷ [] = (slice_eq-Decides Decides-eqb s dash r test).0 holds ∙ is_dash in
    rw same

only_dash : (s : List ℕ) → length s ≡ 1 → get_or s 0 0 ≡ 45 → s ≡ 45 ∷ []
only_dash [] l g = absurd (omega arith)
only_dash (x ∷ []) l g = rw g
only_dash (x ∷ y ∷ s) l g = absurd (omega arith)

-- of any other word it is tested whether it is one or more pairs of digits
pub not_dash : (s dash out : List ℕ) (r : Bool) → r ≡ pointwise eqb s dash → dash ≡ 45 ∷ [] → r ≡ false
    → taken_of s out ≡ unless (ltb 0 (length s)) out (unless (eqb (length s % 2) 0) out (unless (leb (length s / 2) (length out)) out
    (unless (all_digits 16 s) out (record { answer = Some (length s / 2); after = sets out 0 (pairs s) }))))
unfolding taken_of
not_dash s dash out r test is_dash other =
    let no_dash : get_or s 0 0 ≡ 45 → length s ≡ 1 → ⊥ = λ at one.
    let yes : r ≡ true = (slice_eq-Decides Decides-eqb s dash r test).1 (only_dash s one at ∙ sym is_dash) in
    cc in
    elim (cases_eq (length s) 1) [
      | inl one ↦ rw (one, ne_eqb (get_or s 0 0) 45 (λ at. no_dash at one))
      | inr many ↦ rw (ne_eqb (length s) 1 many)
    ]

-- the bytes that a word gives lie in the buffer, by the tests of `taken_of`
module _ (n : ℕ) (xs out : List ℕ) where
  taken : Bool → Bool → Bool → Bool → Bool → Bool → Took
  taken one dash some even room digits =
      cond one (unless dash out (record { answer = Some 0; after = out }))
      (unless some out (unless even out (unless room out (unless digits out (record { answer = Some n; after = sets out 0 xs })))))

  within : (one dash some even room digits : Bool) (k : ℕ) → (room ≡ true → n ≤ length out)
      → Some k ≡ (taken one dash some even room digits).answer → k ≤ length (taken one dash some even room digits).after
  unfolding taken
  within true true some even room digits k h p = let z : k ≡ 0 = cc in omega arith
  within true false some even room digits k h p = absurd cc
  within false dash false even room digits k h p = absurd cc
  within false dash true false room digits k h p = absurd cc
  within false dash true true false digits k h p = absurd cc
  within false dash true true true false k h p = absurd cc
  within false dash true true true true k h p = let z : k ≡ n = cc in omega (arith, h refl, length-sets out 0 xs)

pub taken-counts : (s out e : List ℕ) (k : ℕ) (r : Option ℕ) → r ≡ (taken_of s out).answer → e ≡ (taken_of s out).after → r ≡ Some k
    → (k ≤ length e) × (k ≡ length (take k e))
unfolding taken_of taken
taken-counts s out e k r p q g =
    let h : k ≤ length (taken_of s out).after =
    within (length s / 2) (pairs s) out (eqb (length s) 1) (eqb (get_or s 0 0) 45) (ltb 0 (length s))
    (eqb (length s % 2) 0) (leb (length s / 2) (length out)) (all_digits 16 s) k (leb-true _ _) (sym g ∙ p) in
    let l : k ≤ length e = rw q h in
    (l, sym (length-take-le k e l))
