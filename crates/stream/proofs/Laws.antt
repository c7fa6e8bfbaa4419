-- The stated length, and the three answers, by the ways through the code.
use Prim.Native.Nat.{ℕ, ◌+◌, ◌≤◌, ◌<◌}
use native.Mathlib.Omega.{arith}
use mathlib.Core.Bool.{Bool, true, false}
use mathlib.Core.List.{List}
use mathlib.Core.Path.{◌≡◌, refl, ap, ap₂, sym, ◌∙◌}
use lib.Dec.{ltb}
use lib.ListN.{length, take, drop, get_or}
use lib.Seq.{get_or-take}
use borrow.Author.Tests.{lt-ltb, le-ltb}
use Rattle.meaning.specs.declared.Order.{Order}
use Rattle.meaning.specs.declared.Refusal.{Refusal}
use Rattle.meaning.specs.declared.Header.{Header}
use Rattle.std.specs.Prelude.{Result, Ok, Err}
use Rattle.meaning.specs.Number.{load, gap}
use Rattle.meaning.specs.Message.{Message}
use Rattle.meaning.specs.Reader.{Res, got, fault}
use Rattle.meaning.specs.ReadMessage.{order_of, size_in, table_in, message_size, read_message}
use Rattle.meaning.specs.Header.{header_of, header_from, read_header}
use Rattle.meaning.proofs.MessageLocal.{read_message-local}
use Rattle.util.proofs.Windows.{seen}
use Rattle.stream.specs.declared.Next.TheVariants.{Whole, Cut, Refused}
use Rattle.meaning.specs.Faults.{is_short}
use Rattle.stream.specs.Next.{stated_size, refused_as, next_from, next_of}

-- what the table's alignment of a struct makes of a gap
pub gap-eight : {a g : ℕ} (off : ℕ) → g ≡ gap a off → a ≡ 8 → g ≡ gap 8 off
gap-eight off h e = h ∙ ap (λ (n : ℕ). gap n off) e

pub gap-small : (g off : ℕ) → g ≡ gap 8 off → g < 8
unfolding gap
gap-small g off h = omega (arith, h)

module _ (b : List ℕ) where
  pub stated-least : length b < 16 → 16 ≡ stated_size b
  unfolding stated_size
  stated-least h = rw (lt-ltb _ _ h)

  pub stated-is : (o : Order) (t g s : ℕ) → 16 ≤ length b → o ≡ order_of (get_or b 0 0) → t ≡ load o (take 4 (drop 12 b)) → g ≡ gap 8 (16 + t) → s ≡ load o (take 4 (drop 4 b)) → 16 + t + g + s ≡ stated_size b
  unfolding stated_size message_size table_in
  stated-is o t g s h eo et eg es =
      let m : order_of (get_or (take 12 b) 0 0) ≡ o = ap order_of (get_or-take 12 b 0 0 (omega arith)) ∙ sym eo in
      let n : load (order_of (get_or (take 12 b) 0 0)) (take 4 (drop 12 b)) ≡ t = ap (λ (x : Order). load x (take 4 (drop 12 b))) m ∙ sym et in
      let z : size_in (take 12 b) ≡ s = ap₂ (λ (x : Order) (y : List ℕ). load x y) m (seen b 12 4 4 (omega arith) (omega arith)) ∙ sym es in
      rw (le-ltb _ _ h, n, z, eg)

  module _ (q : Result Header Refusal) (answers : q ≡ read_header b) where
    pub is_whole : (h : Header) → q ≡ Ok h → (Whole h ≡ next_of b) × (h.length.0 ≤ length b)
    unfolding next_of read_header
    is_whole h k = (sym (ap (λ (x : Result Header Refusal). next_from x (length b) (stated_size b)) (sym answers ∙ k)), go (read_message b 0) refl (sym answers ∙ k))
      where
        go : (x : Res Message) → read_message b 0 ≡ x → header_from x ≡ Ok h → h.length.0 ≤ length b
        go (got m e) r w =
            let u : header_of m e ≡ h = cc in
            let v : h.length.0 ≡ e = sym (ap (λ (x : Header). x.length.0) u) in
            let l = (read_message-local.bound b 0 m e (omega arith) r).1 in
            omega (arith, v, l)
        go (fault x) r w = absurd (let u : ◌≡◌ {A = ℕ} 0 1 = cc in omega arith)

    module _ (x : Refusal) (k : q ≡ Err x) (s : ℕ) (states : s ≡ stated_size b) where
      to : (short fewer : Bool) → is_short x.fault ≡ short → ltb (length b) s ≡ fewer → refused_as short fewer s x ≡ next_of b
      unfolding next_of
      to short fewer h l =
          sym (ap (λ (y : Result Header Refusal). next_from y (length b) (stated_size b)) (sym answers ∙ k) ∙ rw (← states, h, l))

      pub is_cut : is_short x.fault ≡ true → length b < s → Cut (record { 0 = s }) ≡ next_of b
      is_cut h l = to true true h (lt-ltb _ _ l)

      pub is-refused-whole : is_short x.fault ≡ true → s ≤ length b → Refused x ≡ next_of b
      is-refused-whole h l = to true false h (le-ltb _ _ l)

      pub is-refused : is_short x.fault ≡ false → Refused x ≡ next_of b
      is-refused h = to false (ltb (length b) s) h refl
