-- The head of an array by the ways through the code: b is all that is seen.
use Prim.Native.Nat.{ℕ, ◌+◌, ◌≤◌, ◌<◌}
use native.Mathlib.Omega.{arith}
use mathlib.Core.Bool.{Bool}
use mathlib.Core.List.{List}
use mathlib.Core.Path.{◌≡◌, ap, sym, ◌∙◌}
use lib.ListN.{length, take, drop}
use Rattle.meaning.specs.declared.Order.{Order}
use Rattle.meaning.specs.declared.Place.{Place}
use Rattle.meaning.specs.declared.Refusal.{Refusal}
use Rattle.meaning.specs.declared.Fault.TheVariants.{NotEnoughBytes, NotEnoughBytesForCollection}
use Rattle.std.specs.Prelude.{Result, Ok, Err}
use Rattle.meaning.specs.declared.Part.{Part}
use Rattle.meaning.specs.Faults.{refusal}
use Rattle.meaning.specs.Number.{load}
use Rattle.meaning.specs.Reader.{got, stop, ret, ◌>>=◌, bytes, ahead, reached_of}
use Rattle.meaning.specs.ReadValue.{padding, length_r}
use Rattle.meaning.proofs.Local.{bind-got, bind-fault, bytes-yes, bytes-no, ahead-yes, ahead-no, leb-true, leb-false}
use Rattle.meaning.proofs.Meets.{here-bind}
use Rattle.meaning.proofs.Loop.{at-inv, refused-inv}
use Rattle.validate_raw.specs.Head.{lying_r, head_r, inside_if, opened_of}

module _ (a n : ℕ) (b : List ℕ) (off : ℕ) where
  -- the contents are longer than what is left
  pub lying-over : (x : Refusal) → length b < off + n → x ≡ refusal NotEnoughBytesForCollection off → Err x ≡ opened_of (length b) (lying_r a n b off)
  unfolding lying_r
  lying-over x h e = rw e (sym (ap (opened_of (length b)) (bind-fault (ahead n (padding a)) (λ u. ret n) b off (refusal NotEnoughBytesForCollection off) (ahead-no n (padding a) b off (omega arith)))))

  module _ (fits : off + n ≤ length b) where
    pub lying-stop : (x : Refusal) → reached_of (padding a b off) ≡ Err x → Err x ≡ opened_of (length b) (lying_r a n b off)
    unfolding lying_r
    lying-stop x h =
        sym (ap (opened_of (length b)) (bind-fault (ahead n (padding a)) (λ u. ret n) b off x (ahead-yes n (padding a) b off (omega arith) ∙ refused-inv (padding a b off) x h)))

    module _ (p : Place) (h : reached_of (padding a b off) ≡ Ok p) where
      lies : lying_r a n b off ≡ got n p.0
      unfolding lying_r ret
      lies =
          let i = at-inv (padding a b off) p h in
          bind-got (ahead n (padding a)) (λ u. ret n) b off i.0 p.0 (ahead-yes n (padding a) b off (omega arith) ∙ i.1)

      pub lying-late : (x : Refusal) → length b < p.0 + n → x ≡ refusal NotEnoughBytesForCollection p.0 → Err x ≡ opened_of (length b) (lying_r a n b off)
      lying-late x l e =
          rw e (sym (ap (opened_of (length b)) lies ∙ ap (λ (y : Bool). inside_if y p.0 n) (leb-false (p.0 + n) (length b) l)))

      pub lying-inside : p.0 + n ≤ length b → Ok (record { 0 = record { 0 = p.0 }; 1 = record { 0 = n } }) ≡ opened_of (length b) (lying_r a n b off)
      lying-inside l = sym (ap (opened_of (length b)) lies ∙ ap (λ (y : Bool). inside_if y p.0 n) (leb-true (p.0 + n) (length b) l))

-- the alignment of an array and the size of its length field are what the code read from the table
module _ (o : Order) (a : ℕ) (b : List ℕ) (off : ℕ) (to : ℕ) (four : to ≡ 4) where
  pub head-stop : (x : Refusal) → reached_of (padding to b off) ≡ Err x → Err x ≡ opened_of (length b) (head_r o a b off)
  unfolding head_r
  head-stop x h =
      let k : reached_of (padding 4 b off) ≡ Err x = rw four at h in
      sym (ap (opened_of (length b)) (bind-fault (padding 4) (λ u. length_r o >>= λ n. lying_r a n) b off x (refused-inv (padding 4 b off) x k)))

  module _ (p : Place) (h : reached_of (padding to b off) ≡ Ok p) (w : ℕ) (wide : w ≡ 4) where
    counted : head_r o a b off ≡ (length_r o >>= λ n. lying_r a n) b p.0
    unfolding head_r
    counted =
        let k : reached_of (padding 4 b off) ≡ Ok p = rw four at h in
        let i = at-inv (padding 4 b off) p k in
        bind-got (padding 4) (λ u. length_r o >>= λ n. lying_r a n) b off i.0 p.0 i.1

    pub head-short : (x : Refusal) → length b < p.0 + w → x ≡ refusal NotEnoughBytes p.0 → Err x ≡ opened_of (length b) (head_r o a b off)
    unfolding length_r
    head-short x l e =
        let s : length_r o b p.0 ≡ stop NotEnoughBytes p.0 =
        here-bind (λ q. bytes 4 q >>= λ y. ret (load o y)) b p.0
        ∙ bind-fault (bytes 4 p.0) (λ y. ret (load o y)) b p.0 (refusal NotEnoughBytes p.0) (bytes-no 4 p.0 b p.0 (omega arith)) in
        rw e (sym (ap (opened_of (length b)) (counted ∙ bind-fault (length_r o) (λ n. lying_r a n) b p.0 (refusal NotEnoughBytes p.0) s)))

    pub head_read : (n : ℕ) (r : Result Part Refusal) → p.0 + w ≤ length b → n ≡ load o (take 4 (drop p.0 b)) → r ≡ opened_of (length b) (lying_r a n b (p.0 + w))
        → r ≡ opened_of (length b) (head_r o a b off)
    unfolding length_r ret
    head_read n r l e g =
        let s : length_r o b p.0 ≡ got n (p.0 + 4) =
        here-bind (λ q. bytes 4 q >>= λ y. ret (load o y)) b p.0
        ∙ bind-got (bytes 4 p.0) (λ y. ret (load o y)) b p.0 (take 4 (drop p.0 b)) (p.0 + 4) (bytes-yes 4 p.0 b p.0 (omega arith))
        ∙ ap (λ (y : ℕ). got y (p.0 + 4)) (sym e) in
        g ∙ ap (λ (y : ℕ). opened_of (length b) (lying_r a n b (p.0 + y))) wide
        ∙ sym (ap (opened_of (length b)) (counted ∙ bind-got (length_r o) (λ m. lying_r a m) b p.0 n (p.0 + 4) s))
