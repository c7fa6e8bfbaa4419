-- A value that is read has exactly the bits of the wire, at the first place of its alignment. Of a double or a NaN this is said of the 64 bits of
-- the answer itself.
use Prim.Native.Nat.{ℕ, ◌+◌, ◌^◌, ◌<◌}
use native.Mathlib.Omega.{arith}
use mathlib.Core.Bool.{Bool, true, false}
use mathlib.Core.List.{List, [], ◌∷◌}
use mathlib.Core.Path.{◌≡◌, refl, ap, sym, subst, ◌∙◌}
use lib.ListN.{length, take, drop}
use lib.Ieee.{binary64, nan_bits, of_bits, to_bits}
use lib.Ieee.Bits.{nan_bits_is, to_bits-of_bits}
use Rattle.meaning.specs.Types.{Fix, dbl, fix, size}
use Rattle.meaning.specs.Number.{load, gap}
use Rattle.meaning.specs.Signature.{code_fix}
use Rattle.meaning.specs.Text.{pick}
use Rattle.meaning.specs.Faults.{refusal}
use Rattle.meaning.specs.Reader.{Res, got, fault, R, ret, ◌>>=◌, ◌>>◌, check, bytes}
use Rattle.meaning.specs.ReadValue.{valid, padding, read_fix, bare_r, base_r}
use Rattle.meaning.specs.FixedValue.{fixed_value, fixed_from, read_fixed}
use Rattle.meaning.specs.declared.Order.{Order}
use Rattle.meaning.specs.declared.Fault.TheVariants.{BadOffset, InvalidBoolean}
use Rattle.meaning.specs.declared.FixedValue.{FixedValue}
use Rattle.meaning.specs.declared.FixedValue.TheVariants.{Byte, Boolean, Int16, Uint16, Int32, Uint32, Int64, Uint64, Double, Nan, UnixFd}
use Rattle.std.specs.Prelude.{Ok, Err}
use Rattle.meaning.proofs.Local.{Cmp, cmp, is_le, is_gt, bind_inv, ret_inv}
use Rattle.meaning.proofs.NumberLaws.{Bytes, bytes_take, bytes_drop, load_lt}
use Rattle.meaning.proofs.Meets.{here-bind, bytes-bind-inv, check-bind-inv, padding-sound, length-pad}
use Rattle.read.proofs.FixedTypes.{names}
use Rattle.read.proofs.Ways.{outside, within}

-- the bytes that a fixed value stands in: behind the padding
abbrev pub wire : Fix → List ℕ → ℕ → List ℕ
wire c b off = take (size c) (drop (off + gap (size c) off) b)

-- a value is read, and its bytes lie within the buffer
pub record Got (o : Order) (c : Fix) (b : List ℕ) (off : ℕ) (v : FixedValue) : Type 0 where
  pub is : v ≡ fixed_value c (load o (wire c b off))
  pub full : length (wire c b off) ≡ size c

module _ (o : Order) (c : Fix) (b : List ℕ) (off : ℕ) (v : FixedValue) where
  base-is : (n e : ℕ) → base_r o (fix c) b off ≡ got n e → v ≡ fixed_value c n → Got o c b off v
  unfolding base_r bare_r read_fix
  base-is n e q z =
      let i = bind_inv (padding (size c)) (λ u. bare_r o (fix c)) b off n e q in
      let m : i.1 ≡ off + gap (size c) off = (padding-sound (size c) b off i.0 i.1 i.2).end ∙ ap (λ (k : ℕ). off + k) (length-pad (size c) off) in
      let body : ℕ → List ℕ → R ℕ = λ p xs. check (valid c (load o xs)) InvalidBoolean p >> ret (load o xs) in
      let j = bytes-bind-inv (size c) i.1 (body i.1) b i.1 n e (sym (here-bind (λ p. bytes (size c) p >>= body p) b i.1) ∙ i.3) in
      let k = check-bind-inv (valid c (load o j.0)) InvalidBoolean i.1 (λ u. ret (load o j.0)) b j.1 n e j.6 in
      let w = ret_inv (load o j.0) b j.1 n e k.1 in
      let x : j.0 ≡ wire c b off = j.3 ∙ ap (λ (p : ℕ). take (size c) (drop p b)) m in
      record { is = z ∙ ap (fixed_value c) (sym w.0) ∙ ap (λ (l : List ℕ). fixed_value c (load o l)) x; full = ap length (sym x) ∙ j.2 }

  from-inv : (q : Res ℕ) → base_r o (fix c) b off ≡ q → fixed_from c q ≡ Ok v → Got o c b off v
  from-inv (got n e) h z = base-is n e h (cc)
  from-inv (fault x) h z = absurd (let w : ◌≡◌ {A = ℕ} 0 1 = cc in omega arith)

  pub read_is : read_fixed o (code_fix c ∷ []) b off ≡ Ok v → Got o c b off v
  read_is h = go (cmp off (length b))
    where
      go : Cmp off (length b) → Got o c b off v
      go (is_le t l) = from-inv (base_r o (fix c) b off) refl (sym (within o (code_fix c ∷ []) b off c (size c) (names (code_fix c ∷ []) c refl refl) refl l) ∙ h)
      go (is_gt t l) =
          let n = outside o (code_fix c ∷ []) b off c (size c) (names (code_fix c ∷ []) c refl refl) refl l (refusal BadOffset off) refl in
          let z : Err (refusal BadOffset off) ≡ Ok v = n ∙ h in
          absurd (let w : ◌≡◌ {A = ℕ} 0 1 = cc in omega arith)

-- a double or a NaN that has these 64 bits
abbrev pub HasBits : ℕ → FixedValue → Type 0
HasBits n (Byte x) = ⊥
HasBits n (Boolean x) = ⊥
HasBits n (Int16 x) = ⊥
HasBits n (Uint16 x) = ⊥
HasBits n (Int32 x) = ⊥
HasBits n (Uint32 x) = ⊥
HasBits n (Int64 x) = ⊥
HasBits n (Uint64 x) = ⊥
HasBits n (Double d) = to_bits binary64 d ≡ n
HasBits n (Nan x) = x ≡ n
HasBits n (UnixFd x) = ⊥

by : (n : ℕ) → n < 2 ^ 64 → (a : Bool) → nan_bits binary64 n ≡ a → HasBits n (pick a (Nan n) (Double (of_bits binary64 n)))
by n h true e = refl
by n h false e = to_bits-of_bits binary64 n h (rw (← (nan_bits_is binary64 n), e) tt)

pub exact : (o : Order) (b : List ℕ) → Bytes b → (off : ℕ) (v : FixedValue) → read_fixed o (code_fix dbl ∷ []) b off ≡ Ok v → HasBits (load o (wire dbl b off)) v
unfolding fixed_value
exact o b y off v h =
    let g = read_is o dbl b off v h in
    let w : List ℕ = wire dbl b off in
    let l : load o w < 256 ^ length w = load_lt o w (bytes_take 8 (drop (off + gap 8 off) b) (bytes_drop (off + gap 8 off) b y)) in
    let k : load o w < 256 ^ 8 = subst (λ (n : ℕ). load o w < 256 ^ n) g.full l in
    subst (HasBits (load o w)) (sym g.is) (by (load o w) (omega arith) (nan_bits binary64 (load o w)) refl)
