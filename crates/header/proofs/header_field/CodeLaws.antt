-- Field codes: which type each known one asks for.
use Prim.Native.Nat.{ℕ, zero, suc, ◌≤◌, ◌<◌}
use native.Mathlib.Omega.{arith}
use mathlib.Core.Path.{◌≡◌, refl, ap, sym, subst, ◌∙◌}
use Rattle.meaning.specs.Types.{byte, bool, i16, u16, i32, i64, u64, dbl, fd, Base, fix, u32, str, path, sig}
use Rattle.meaning.specs.Signature.{code}
use Rattle.meaning.specs.Message.{nothing, exactly, anything, wants}
use Rattle.meaning.proofs.Local.{Cmp, is_le, is_gt, cmp}

-- the types that known fields hold
pub data Kept : Base → Type 0 where
  number : Kept (fix u32)
  string : Kept str
  object : Kept path
  spelling : Kept sig

-- what holds of these four holds of each type that a known field holds
pub by-kept : (P : Base → Type 0) → P (fix u32) → P str → P path → P sig → (b : Base) → Kept b → P b
by-kept P n s o g (fix u32) number = n
by-kept P n s o g str string = s
by-kept P n s o g path object = o
by-kept P n s o g sig spelling = g
by-kept P n s o g (fix byte) r = elim r [ ]
by-kept P n s o g (fix bool) r = elim r [ ]
by-kept P n s o g (fix i16) r = elim r [ ]
by-kept P n s o g (fix u16) r = elim r [ ]
by-kept P n s o g (fix i32) r = elim r [ ]
by-kept P n s o g (fix i64) r = elim r [ ]
by-kept P n s o g (fix u64) r = elim r [ ]
by-kept P n s o g (fix dbl) r = elim r [ ]
by-kept P n s o g (fix fd) r = elim r [ ]

-- what a code below ten asks for
pub data Asks : ℕ → Type 0 where
  asks : {c : ℕ} (k : Base) → Kept k → wants c ≡ exactly k → 1 ≤ c → Asks c

pub known-asks : (c : ℕ) → 1 ≤ c → c < 10 → Asks c
unfolding wants
known-asks zero h l = absurd (omega arith)
known-asks (suc zero) h l = asks path object refl h
known-asks (suc (suc zero)) h l = asks str string refl h
known-asks (suc (suc (suc zero))) h l = asks str string refl h
known-asks (suc (suc (suc (suc zero)))) h l = asks str string refl h
known-asks (suc (suc (suc (suc (suc zero))))) h l = asks (fix u32) number refl h
known-asks (suc (suc (suc (suc (suc (suc zero)))))) h l = asks str string refl h
known-asks (suc (suc (suc (suc (suc (suc (suc zero))))))) h l = asks str string refl h
known-asks (suc (suc (suc (suc (suc (suc (suc (suc zero)))))))) h l = asks sig spelling refl h
known-asks (suc (suc (suc (suc (suc (suc (suc (suc (suc zero))))))))) h l = asks (fix u32) number refl h
known-asks (suc (suc (suc (suc (suc (suc (suc (suc (suc (suc n)))))))))) h l = absurd (omega arith)

pub other-asks : (c : ℕ) → 10 ≤ c → wants c ≡ anything
unfolding wants
other-asks (suc (suc (suc (suc (suc (suc (suc (suc (suc (suc n)))))))))) h = refl
other-asks zero h = absurd (omega arith)
other-asks (suc zero) h = absurd (omega arith)
other-asks (suc (suc zero)) h = absurd (omega arith)
other-asks (suc (suc (suc zero))) h = absurd (omega arith)
other-asks (suc (suc (suc (suc zero)))) h = absurd (omega arith)
other-asks (suc (suc (suc (suc (suc zero))))) h = absurd (omega arith)
other-asks (suc (suc (suc (suc (suc (suc zero)))))) h = absurd (omega arith)
other-asks (suc (suc (suc (suc (suc (suc (suc zero))))))) h = absurd (omega arith)
other-asks (suc (suc (suc (suc (suc (suc (suc (suc zero)))))))) h = absurd (omega arith)
other-asks (suc (suc (suc (suc (suc (suc (suc (suc (suc zero))))))))) h = absurd (omega arith)

pub none-asks : wants 0 ≡ nothing
unfolding wants
none-asks = refl

-- a type that a code asks for is one of four
pub kept : (c : ℕ) (k : Base) → wants c ≡ exactly k → Kept k
kept zero k h = absurd (let z : nothing ≡ exactly k = sym none-asks ∙ h in let y : ◌≡◌ {A = ℕ} 0 1 = cc in omega arith)
kept (suc n) k h = go (cmp (suc n) 9)
  where
    go : Cmp (suc n) 9 → Kept k
    go (is_le t l) = ask (known-asks (suc n) (omega arith) (omega arith))
      where
        ask : Asks (suc n) → Kept k
        ask (asks d r e l) = let z : d ≡ k = cc in subst Kept z r
    go (is_gt t l) = absurd (let z : anything ≡ exactly k = sym (other-asks (suc n) (omega arith)) ∙ h in let y : ◌≡◌ {A = ℕ} 0 1 = cc in omega arith)

asks-code : (c : ℕ) (k : Base) → wants c ≡ exactly k → (d : Base) → wants c ≡ exactly d → code d ≡ code k
asks-code c k h d e = let z : d ≡ k = cc in ap code z

pub asked_is : (c n : ℕ) (d : Base) → c ≡ n → wants n ≡ exactly d → (k : Base) → wants c ≡ exactly k → code d ≡ code k
asked_is c n d e h k q = asks-code c k q d (ap wants e ∙ h)

-- the codes that are left ask for a string
pub asked-string : (c : ℕ) → (c ≡ 1 → ⊥) → (c ≡ 5 → ⊥) → (c ≡ 8 → ⊥) → (c ≡ 9 → ⊥) → (k : Base) → wants c ≡ exactly k → 115 ≡ code k
unfolding wants
asked-string zero a b d e k q = absurd (let y : ◌≡◌ {A = ℕ} 0 1 = cc in omega arith)
asked-string (suc zero) a b d e k q = absurd (a refl)
asked-string (suc (suc zero)) a b d e k q = let z : str ≡ k = cc in ap code z
asked-string (suc (suc (suc zero))) a b d e k q = let z : str ≡ k = cc in ap code z
asked-string (suc (suc (suc (suc zero)))) a b d e k q = let z : str ≡ k = cc in ap code z
asked-string (suc (suc (suc (suc (suc zero))))) a b d e k q = absurd (b refl)
asked-string (suc (suc (suc (suc (suc (suc zero)))))) a b d e k q = let z : str ≡ k = cc in ap code z
asked-string (suc (suc (suc (suc (suc (suc (suc zero))))))) a b d e k q = let z : str ≡ k = cc in ap code z
asked-string (suc (suc (suc (suc (suc (suc (suc (suc zero)))))))) a b d e k q = absurd (d refl)
asked-string (suc (suc (suc (suc (suc (suc (suc (suc (suc zero))))))))) a b d e k q = absurd (e refl)
asked-string (suc (suc (suc (suc (suc (suc (suc (suc (suc (suc n)))))))))) a b d e k q = absurd (let y : ◌≡◌ {A = ℕ} 0 1 = cc in omega arith)
