-- What is to be written of padding, by the test of the alignment.
use Prim.Native.Nat.{ℕ}
use mathlib.Core.Bool.{true, false}
use mathlib.Core.Path.{◌≡◌}
use lib.ListN.{replicate}
use Rattle.meaning.specs.Number.{gap}
use Rattle.meaning.specs.Writers.{bytes, faulty, is_alignment, padding_bytes}
use Rattle.meaning.specs.declared.Fault.TheVariants.{BadAlignment}

pub aligned : (a at n : ℕ) → is_alignment a ≡ true → n ≡ gap a at → padding_bytes a at ≡ bytes (replicate n 0)
aligned a at n h e = rw (h, e)

pub not_aligned : (a at : ℕ) → is_alignment a ≡ false → padding_bytes a at ≡ faulty BadAlignment
not_aligned a at h = rw h
