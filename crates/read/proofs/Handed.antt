-- What is handed out of a fixed value: its 64 bits are the wire's, and a value that is read is one that the check accepts.
use Prim.Native.Nat.{ℕ, zero, suc, ◌+◌, ◌*◌, ◌-◌, ◌%◌, ◌^◌, ◌<◌}
use native.Mathlib.Nat.{mod-eq_of_lt, add-mul-mod_self_left}
use native.Mathlib.Omega.{arith}
use mathlib.Core.Bool.{Bool, true, false}
use mathlib.Core.List.{List}
use mathlib.Core.Path.{◌≡◌, refl, sym, ap, ◌∙◌}
use lib.ListN.{length}
use lib.Dec.{T, leb, ltb, eqb, ltb→lt}
use lib.IntN.{pos, negsuc}
use lib.Ieee.{binary64, is_nan, nan_bits, of_bits}
use lib.Ieee.Bits.{nan_bits_is, to_bits-of_bits}
use Rattle.meaning.specs.Text.{pick}
use Rattle.meaning.specs.Types.{Fix, byte, bool, i16, u16, i32, u32, i64, u64, dbl, fd, fix, str, path, sig, size, base, arr, dict, struct, variant}
use Rattle.meaning.specs.Faults.{refusal}
use Rattle.meaning.specs.Reader.{Res, got, fault}
use Rattle.meaning.specs.Signature.{parse}
use Rattle.meaning.specs.ReadValue.{valid, read, read_top, check_at, check_value, taken, base_r, Opt, the, not1, only_one}
use Rattle.meaning.specs.FixedValue.{signed, fixed_value, read_fixed}
use Rattle.meaning.specs.declared.Order.{Order}
use Rattle.meaning.specs.declared.Fault.TheVariants.{BadOffset, BadArgument}
use Rattle.meaning.specs.declared.FixedValue.{FixedValue}
use Rattle.meaning.specs.declared.FixedValue.TheVariants.{Double, Nan}
use Rattle.std.specs.Prelude.{Ok, Err}
use Rattle.read.specs.Bits.{extended, double_bits, bits_of}

-- a signed number of k bits, carried on to 64: its last k bits are the wire's
carried : (k q n : ℕ) → 2 ^ k * q + 2 ^ k ≡ 2 ^ 64 → n < 2 ^ k → extended (signed k n) % 2 ^ k ≡ n
unfolding extended
carried k q n e h = go (ltb n (2 ^ (k - 1)))
  where
    go : (a : Bool) → extended (pick a (pos n) (negsuc (2 ^ k - 1 - n))) % 2 ^ k ≡ n
    go true = mod-eq_of_lt h
    go false =
        let z : 2 ^ 64 - 1 - (2 ^ k - 1 - n) ≡ n + 2 ^ k * q = omega arith in
        ap (λ (m : ℕ). m % 2 ^ k) z ∙ add-mul-mod_self_left n (2 ^ k) q ∙ mod-eq_of_lt h

doubled : (n : ℕ) → n < 2 ^ 64 → (a : Bool) → nan_bits binary64 n ≡ a → bits_of (pick a (Nan n) (Double (of_bits binary64 n))) ≡ n
unfolding double_bits
doubled n h true e = refl
doubled n h false e =
    let f : is_nan (of_bits binary64 n) ≡ false = sym (nan_bits_is binary64 n) ∙ e in
    rw f (to_bits-of_bits binary64 n h (rw f tt))

truth : (n : ℕ) → n < 2 → pick (eqb n 1) 1 0 ≡ n
truth zero h = refl
truth (suc zero) h = refl
truth (suc (suc n)) h = absurd (omega arith)

-- the 64 bits that are handed out end in the bits of the wire
pub wire-bits : (c : Fix) (n : ℕ) → n < 256 ^ size c → T (valid c n) → bits_of (fixed_value c n) % 256 ^ size c ≡ n
unfolding fixed_value
wire-bits byte n h t = mod-eq_of_lt h
wire-bits bool n h t = ap (λ (m : ℕ). m % 256 ^ 4) (truth n (ltb→lt n 2 t)) ∙ mod-eq_of_lt h
wire-bits i16 n h t = carried 16 281474976710655 n refl h
wire-bits u16 n h t = mod-eq_of_lt h
wire-bits i32 n h t = carried 32 4294967295 n refl h
wire-bits u32 n h t = mod-eq_of_lt h
wire-bits i64 n h t = carried 64 0 n refl h
wire-bits u64 n h t = mod-eq_of_lt h
wire-bits dbl n h t = ap (λ (m : ℕ). m % 256 ^ 8) (doubled n h (nan_bits binary64 n) refl) ∙ mod-eq_of_lt h
wire-bits fd n h t = mod-eq_of_lt h

-- a value that is read is one that the check accepts, with some length
pub read-accepted : (o : Order) (s b : List ℕ) (off : ℕ) (v : FixedValue) → read_fixed o s b off ≡ Ok v → (n : ℕ) × (check_value o s b off ≡ taken n)
unfolding read_fixed check_value check_at read_top read
read-accepted o s b off v h = go (only_one (parse s)) refl
  where
    none : {A : Type 0} → Err (refusal BadArgument 0) ≡ Ok v → A
    none z = absurd (let w : ◌≡◌ {A = ℕ} 0 1 = cc in omega arith)

    inner : (c : Fix) → only_one (parse s) ≡ the (base (fix c)) → (a : Bool) → leb off (length b) ≡ a → (q : Res ℕ) → base_r o (fix c) b off ≡ q → (n : ℕ) × (check_value o s b off ≡ taken n)
    inner c e true l (got n p) z = (p - off, rw (check_value, e, check_at, l, read_top, read, z))
    inner c e true l (fault x) z = absurd (let y : Err x ≡ Ok v = sym (rw (read_fixed, e, l, z)) ∙ h in let w : ◌≡◌ {A = ℕ} 0 1 = cc in omega arith)
    inner c e false l q z = absurd (let y : Err (refusal BadOffset off) ≡ Ok v = sym (rw (read_fixed, e, l)) ∙ h in let w : ◌≡◌ {A = ℕ} 0 1 = cc in omega arith)

    go : (p : Opt) → only_one (parse s) ≡ p → (n : ℕ) × (check_value o s b off ≡ taken n)
    go (the (base (fix c))) e = inner c e (leb off (length b)) refl (base_r o (fix c) b off) refl
    go (the (base str)) e = none (sym (rw (read_fixed, e)) ∙ h)
    go (the (base path)) e = none (sym (rw (read_fixed, e)) ∙ h)
    go (the (base sig)) e = none (sym (rw (read_fixed, e)) ∙ h)
    go (the (arr t)) e = none (sym (rw (read_fixed, e)) ∙ h)
    go (the (dict f k t)) e = none (sym (rw (read_fixed, e)) ∙ h)
    go (the (struct fs)) e = none (sym (rw (read_fixed, e)) ∙ h)
    go (the variant) e = none (sym (rw (read_fixed, e)) ∙ h)
    go not1 e = none (sym (rw (read_fixed, e)) ∙ h)
