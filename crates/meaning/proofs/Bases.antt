-- What holds of every basic type, row by row, and what holds of the fixed ones by their size alone.
use Prim.Native.Nat.{ℕ}
use Rattle.meaning.specs.Types.{Fix, byte, bool, i16, u16, i32, u32, i64, u64, dbl, fd, Base, fix, str, path, sig, size}

module _ (P : Fix → Type 0) where
  pub for-fix : P byte → P bool → P i16 → P u16 → P i32 → P u32 → P i64 → P u64 → P dbl → P fd → (c : Fix) → P c
  for-fix a b c d e f g h i j byte = a
  for-fix a b c d e f g h i j bool = b
  for-fix a b c d e f g h i j i16 = c
  for-fix a b c d e f g h i j u16 = d
  for-fix a b c d e f g h i j i32 = e
  for-fix a b c d e f g h i j u32 = f
  for-fix a b c d e f g h i j i64 = g
  for-fix a b c d e f g h i j u64 = h
  for-fix a b c d e f g h i j dbl = i
  for-fix a b c d e f g h i j fd = j

module _ (P : Base → Type 0) where
  pub for-base : ((c : Fix) → P (fix c)) → P str → P path → P sig → (c : Base) → P c
  for-base f s p g (fix c) = f c
  for-base f s p g str = s
  for-base f s p g path = p
  for-base f s p g sig = g

-- the sizes are 1, 2, 4 and 8
pub by_size : (P : ℕ → Type 0) → P 1 → P 2 → P 4 → P 8 → (c : Fix) → P (size c)
by_size P one two four eight = for-fix (λ c. P (size c)) one four two two four four eight eight eight four
