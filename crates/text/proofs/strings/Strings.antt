-- The readers of strings by the ways through the code.
use Prim.Native.Nat.{ℕ, ◌+◌, ◌-◌, ◌≤◌, ◌<◌}
use native.Mathlib.Omega.{arith}
use native.Mathlib.Numerals.{add-one}
use mathlib.Core.Bool.{Bool, true, false}
use mathlib.Core.List.{List, [], ◌∷◌}
use mathlib.Core.Path.{◌≡◌, refl, ap, sym, ◌∙◌}
use lib.Dec.{eqb}
use lib.ListN.{length, take, drop, get_or, length-drop}
use lib.Seq.{length-take-le, take-take, take-suc, drop_at, get_or-drop}
use Rattle.meaning.specs.Faults.{refusal}
use Rattle.meaning.specs.Number.{load, zeros}
use Rattle.meaning.specs.Text.{utf8, no_zero, is_path}
use Rattle.meaning.specs.Reader.{Res, got, fault, stop, R, ret, ◌>>=◌, ◌>>◌, bytes, check, reached_of}
use Rattle.meaning.specs.ReadValue.{sized_r, read_text, read_path}
use Rattle.meaning.specs.declared.Order.{Order}
use Rattle.meaning.specs.declared.Place.{Place}
use Rattle.std.specs.Prelude.{Ok, Err}
use Rattle.meaning.specs.declared.Refusal.{Refusal}
use Rattle.meaning.specs.declared.Fault.TheVariants.{NotEnoughBytes, InvalidUtf8, StringContainsNullByte, MissingTerminator, InvalidObjectPath}
use Rattle.meaning.proofs.Local.{bytes-yes, bytes-no, bind-got, bind-fault, ret_inv}
use Rattle.meaning.proofs.Meets.{here-bind, check-bind-inv, bytes-bind-inv}
use Rattle.meaning.proofs.ValueLocal.{read_text-local}
use Rattle.text.specs.Ends.{ends_at, zero_test}

-- what follows the bytes: a text t, and the rest of them
abbrev judged : (List ℕ → Bool) → ℕ → List ℕ → List ℕ → R (List ℕ)
judged test p t z = check (utf8 t) InvalidUtf8 p >> (check (test t) StringContainsNullByte p >> (check (zeros z) MissingTerminator p >> ret t))

abbrev body : Order → (List ℕ → Bool) → ℕ → List ℕ → R (List ℕ)
body o test p l = bytes (load o l + 1) p >>= λ s. judged test p (take (load o l) s) (drop (load o l) s)

module _ (o : Order) (w : ℕ) (test : List ℕ → Bool) (b : List ℕ) (off : ℕ) where
  -- 2 for the length field
  pub no_field : off ≤ length b → length b - off < w → (x : Refusal) → x ≡ refusal NotEnoughBytes off → Err x ≡ reached_of (sized_r o w test b off)
  unfolding sized_r
  no_field i h x e =
      let k : length b < off + w = omega arith in
      ap Err e
      ∙ sym (ap reached_of (here-bind (λ p. bytes w p >>= body o test p) b off ∙ bind-fault (bytes w off) (body o test off) b off _ (bytes-no w off b off k)))

  module _ (field : off + w ≤ length b) (n : ℕ) (says : n ≡ load o (take w (drop off b))) where
    at_body : sized_r o w test b off ≡ (bytes (n + 1) off >>= λ s. judged test off (take n s) (drop n s)) b (off + w)
    unfolding sized_r
    at_body =
        let k : off + w ≤ length b = field in
        here-bind (λ p. bytes w p >>= body o test p) b off
        ∙ bind-got (bytes w off) (body o test off) b off _ _ (bytes-yes w off b off k)
        ∙ ap (λ (m : ℕ). (bytes (m + 1) off >>= λ s. judged test off (take m s) (drop m s)) b (off + w)) (sym says)

    -- 2 for the length and the bytes that go with it
    pub no_room : length b - (off + w) ≤ n → (x : Refusal) → x ≡ refusal NotEnoughBytes off → Err x ≡ reached_of (sized_r o w test b off)
    no_room h x e =
        let k : length b < off + w + (n + 1) = omega arith in
        ap Err e
        ∙ sym (ap reached_of (at_body ∙ bind-fault (bytes (n + 1) off) (λ s. judged test off (take n s) (drop n s)) b (off + w) _ (bytes-no (n + 1) off b (off + w) k)))

    -- the text, as the code cuts it out
    abbrev part : List ℕ
    part = take (off + w + n - (off + w)) (drop (off + w) b)

    abbrev last : ℕ
    last = get_or b (off + w + n) 0

    part-is : part ≡ take n (drop (off + w) b)
    part-is = let m : off + w + n - (off + w) ≡ n = omega arith in rw m

    module _ (room : n < length b - (off + w)) where
      ends_with : drop n (take (n + 1) (drop (off + w) b)) ≡ last ∷ []
      ends_with =
          let k : n < length (drop (off + w) b) = rw length-drop (omega arith) in
          rw (add-one, take-suc (drop (off + w) b) n 0 k, get_or-drop)
          (drop_at (take n (drop (off + w) b)) (last ∷ []) n (length-take-le n (drop (off + w) b) (omega arith)))

      at-judged : sized_r o w test b off ≡ judged test off part (last ∷ []) b (off + w + (n + 1))
      at-judged =
          let k : off + w + (n + 1) ≤ length b = omega arith in
          at_body
          ∙ bind-got (bytes (n + 1) off) (λ s. judged test off (take n s) (drop n s)) b (off + w) _ _ (bytes-yes (n + 1) off b (off + w) k)
          ∙ ap (λ (t : List ℕ). judged test off t (drop n (take (n + 1) (drop (off + w) b))) b (off + w + (n + 1))) (take-take n (n + 1) (drop (off + w) b) (omega arith) ∙ sym part-is)
          ∙ ap (λ (z : List ℕ). judged test off part z b (off + w + (n + 1))) ends_with

      pub no-utf8 : utf8 part ≡ false → (x : Refusal) → x ≡ refusal InvalidUtf8 off → Err x ≡ reached_of (sized_r o w test b off)
      unfolding check ◌>>=◌
      no-utf8 h x e =
          let q : judged test off part (last ∷ []) b (off + w + (n + 1)) ≡ stop InvalidUtf8 off = rw h in
          ap Err e ∙ sym (ap reached_of (at-judged ∙ q))

      pub null-byte : utf8 part ≡ true → test part ≡ false → (x : Refusal) → x ≡ refusal StringContainsNullByte off → Err x ≡ reached_of (sized_r o w test b off)
      unfolding check ◌>>=◌
      null-byte h k x e =
          let q : judged test off part (last ∷ []) b (off + w + (n + 1)) ≡ stop StringContainsNullByte off = rw (h, k) in
          ap Err e ∙ sym (ap reached_of (at-judged ∙ q))

      pub well : utf8 part ≡ true → test part ≡ true → ends_at last (off + w + n) off ≡ reached_of (sized_r o w test b off)
      unfolding check ◌>>=◌ zeros ret
      well h k = go (eqb last 0) refl
        where
          m : off + w + (n + 1) ≡ off + w + n + 1
          m = omega arith

          go : (q : Bool) → eqb last 0 ≡ q → ends_at last (off + w + n) off ≡ reached_of (sized_r o w test b off)
          go true z =
              let q : judged test off part (last ∷ []) b (off + w + (n + 1)) ≡ got part (off + w + n + 1) = rw (h, k, z, m) in
              rw z (sym (ap reached_of (at-judged ∙ q)))
          go false z =
              let q : judged test off part (last ∷ []) b (off + w + (n + 1)) ≡ stop MissingTerminator off = rw (h, k, z) in
              rw z (sym (ap reached_of (at-judged ∙ q)))

-- what an accepted text is: the bytes after its length field, up to the one before its end
pub text-part : (o : Order) (w : ℕ) (test : List ℕ → Bool) (b : List ℕ) (off : ℕ) (v : List ℕ) (e : ℕ) → sized_r o w test b off ≡ got v e
    → (e ≡ off + w + (length v + 1)) × (v ≡ take (length v) (drop (off + w) b))
unfolding sized_r
text-part o w test b off v e q =
    let i = bytes-bind-inv w off (body o test off) b off v e (sym (here-bind (λ p. bytes w p >>= body o test p) b off) ∙ q) in
    let n : ℕ = load o i.0 in
    let j = bytes-bind-inv (n + 1) off (λ s. judged test off (take n s) (drop n s)) b i.1 v e i.6 in
    let s : List ℕ = j.0 in
    let c6 = check-bind-inv (utf8 (take n s)) InvalidUtf8 off (λ z. check (test (take n s)) StringContainsNullByte off >> (check (zeros (drop n s)) MissingTerminator off >> ret (take n s))) b j.1 v e j.6 in
    let c7 = check-bind-inv (test (take n s)) StringContainsNullByte off (λ z. check (zeros (drop n s)) MissingTerminator off >> ret (take n s)) b j.1 v e c6.1 in
    let c8 = check-bind-inv (zeros (drop n s)) MissingTerminator off (λ z. ret (take n s)) b j.1 v e c7.1 in
    let r = ret_inv (take n s) b j.1 v e c8.1 in
    let vl : length v ≡ n = ap length (sym r.0) ∙ length-take-le n s (omega (arith, j.2)) in
    let m : i.1 ≡ off + w = omega (arith, i.4.end, i.2) in
    let t : take n s ≡ take n (drop i.1 b) = ap (take n) j.3 ∙ take-take n (n + 1) (drop i.1 b) (omega arith) in
    (omega (arith, r.1, j.4.end, j.2), sym r.0 ∙ t ∙ rw (m, vl))

-- an object path: the string's own answer, and then the rule
module _ (o : Order) (b : List ℕ) (off : ℕ) (w : off ≤ length b) where
  abbrev then-path : List ℕ → R (List ℕ)
  then-path s = check (is_path s) InvalidObjectPath off >> ret s

  by-string : read_path o b off ≡ (read_text o >>= then-path) b off
  unfolding read_path
  by-string = here-bind (λ p. read_text o >>= λ s. check (is_path s) InvalidObjectPath p >> ret s) b off

  pub record Cut (p : Place) : Type 0 where
    pub after : off + 5 ≤ p.0
    pub before : p.0 ≤ length b
    pub text : read_text o b off ≡ got (take (p.0 - 1 - (off + 4)) (drop (off + 4) b)) p.0

  pub cut : (p : Place) → Ok p ≡ reached_of (read_text o b off) → Cut p
  unfolding read_text
  cut p e = go (read_text o b off) refl
    where
      go : (x : Res (List ℕ)) → read_text o b off ≡ x → Cut p
      go (got v m) q =
          let z : p.0 ≡ m = let f : Ok p ≡ Ok (record { 0 = m }) = e ∙ ap reached_of q in cc in
          let g = (read_text-local o).bound b off v m w q in
          let t = text-part o 4 no_zero b off v m q in
          let n : length v ≡ p.0 - 1 - (off + 4) = omega arith in
          let i : v ≡ take (p.0 - 1 - (off + 4)) (drop (off + 4) b) = t.1 ∙ rw n in
          record { after = omega arith; before = omega arith; text = rw (← i, z) q }
      go (fault x) q = absurd (let f : Ok p ≡ Err x = e ∙ ap reached_of q in let z : ◌≡◌ {A = ℕ} 0 1 = cc in omega arith)

  pub is-a-path : (p : Place) → Cut p → true ≡ is_path (take (p.0 - 1 - (off + 4)) (drop (off + 4) b)) → Ok (record { 0 = p.0 }) ≡ reached_of (read_path o b off)
  unfolding check ◌>>=◌ ret
  is-a-path p k h =
      let t : List ℕ = take (p.0 - 1 - (off + 4)) (drop (off + 4) b) in
      let q : then-path t b p.0 ≡ got t p.0 = rw (← h) in
      sym (ap reached_of (by-string ∙ bind-got (read_text o) then-path b off t p.0 k.text ∙ q))

  pub no-path : (p : Place) → Cut p → false ≡ is_path (take (p.0 - 1 - (off + 4)) (drop (off + 4) b)) → (x : Refusal) → x ≡ refusal InvalidObjectPath off
      → Err x ≡ reached_of (read_path o b off)
  unfolding check ◌>>=◌ ret
  no-path p k h x e =
      let t : List ℕ = take (p.0 - 1 - (off + 4)) (drop (off + 4) b) in
      let q : then-path t b p.0 ≡ stop InvalidObjectPath off = rw (← h) in
      ap Err e ∙ sym (ap reached_of (by-string ∙ bind-got (read_text o) then-path b off t p.0 k.text ∙ q))

  pub no-string : (x : Refusal) → Err x ≡ reached_of (read_text o b off) → Err x ≡ reached_of (read_path o b off)
  no-string x e = go (read_text o b off) refl
    where
      go : (y : Res (List ℕ)) → read_text o b off ≡ y → Err x ≡ reached_of (read_path o b off)
      go (got v m) q = absurd (let f : Err x ≡ Ok (record { 0 = m }) = e ∙ ap reached_of q in let z : ◌≡◌ {A = ℕ} 0 1 = cc in omega arith)
      go (fault y) q = (e ∙ ap reached_of q) ∙ sym (ap reached_of (by-string ∙ bind-fault (read_text o) then-path b off y q))

-- zeros are no fault where they are allowed
pub lax-fine : (lax : Bool) (s : List ℕ) → no_zero s ≡ true → zero_test lax s ≡ true
lax-fine true s h = refl
lax-fine false s h = h

pub lax-any : (lax : Bool) (s : List ℕ) → lax ≡ true → zero_test lax s ≡ true
lax-any lax s e = rw e

pub lax-not : (lax : Bool) (s : List ℕ) → lax ≡ false → no_zero s ≡ false → zero_test lax s ≡ false
lax-not lax s e h = rw e h
