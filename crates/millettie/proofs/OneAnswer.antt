-- No second answer and no second buffer meet a contract of this crate's entry points: each is an equation with a definition of what was passed.
use Rattle.meaning.proofs.OneAnswer.{OneAnswer, OneBuffer, both}
use Prim.Native.Nat.{ℕ}
use mathlib.Core.List.{List}
use Rattle.meaning.specs.declared.Order.TheVariants.{Little}
use Rattle.millettie.proofs.mt_check_signature.Reads as mt-check-signature
use Rattle.millettie.proofs.mt_check_value.Reads as mt-check-value
use Rattle.millettie.proofs.mt_check_message.Reads as mt-check-message
use Rattle.millettie.proofs.mt_interface.Reads as mt-interface
use Rattle.millettie.proofs.mt_next_message.Reads as mt-next-message
use Rattle.millettie.proofs.mt_read_header.Reads as mt-read-header
use Rattle.millettie.proofs.mt_read_fixed.Reads as mt-read-fixed
use Rattle.millettie.proofs.mt_lookup.Reads as mt-lookup
use Rattle.millettie.proofs.mt_write_padding.Reads as mt-write-padding
use Rattle.millettie.proofs.mt_write_u16.Reads as mt-write-u16
use Rattle.millettie.proofs.mt_write_u32.Reads as mt-write-u32
use Rattle.millettie.proofs.mt_write_u64.Reads as mt-write-u64
use Rattle.millettie.proofs.mt_write_string.Reads as mt-write-string
use Rattle.millettie.proofs.mt_write_signature.Reads as mt-write-signature

pub one-check : OneAnswer mt-check-signature.Learnt × OneAnswer mt-check-value.Learnt × OneAnswer mt-check-message.Learnt
one-check = (λ κs a x y s t h k. both h k, λ κs a x y s t h k. both h k, λ κs a x y s t h k. both h k)

pub one-next : OneAnswer mt-interface.Learnt × OneAnswer mt-next-message.Learnt
one-next = (λ κs a x y s t h k. both h k, λ κs a x y s t h k. both h k)

pub one-read : OneAnswer mt-read-header.Learnt × OneAnswer mt-read-fixed.Learnt × OneAnswer mt-lookup.Learnt
one-read = (λ κs a x y s t h k. both h k, λ κs a x y s t h k. both h k, λ κs a x y s t h k. both h k)

-- an answer and a buffer of a writer
abbrev OneWrite : {K : Type 0} {A R S : K → Type 0} → ((κs : K) → A κs → R κs → S κs → Type 0) → ((κs : K) → S κs → List ℕ) → Type 0
OneWrite L left = OneAnswer L × OneBuffer L left

pub one-write-padding : OneWrite mt-write-padding.Learnt (λ κs s. s.0.now)
one-write-padding = (λ κs a x y s t h k. both h.0 k.0, λ κs a x y s t h k. both h.1 k.1)

pub one-write-u16 : OneWrite mt-write-u16.Learnt (λ κs s. s.0.now)
one-write-u16 = (λ κs a x y s t h k. both h.0 k.0, λ κs a x y s t h k. both h.1 k.1)

pub one-write-u32 : OneWrite mt-write-u32.Learnt (λ κs s. s.0.now)
one-write-u32 = (λ κs a x y s t h k. both h.0 k.0, λ κs a x y s t h k. both h.1 k.1)

pub one-write-u64 : OneWrite mt-write-u64.Learnt (λ κs s. s.0.now)
one-write-u64 = (λ κs a x y s t h k. both h.0 k.0, λ κs a x y s t h k. both h.1 k.1)

pub one-write-string : OneWrite mt-write-string.Learnt (λ κs s. s.0.now)
one-write-string = (λ κs a x y s t h k. both h.0 k.0, λ κs a x y s t h k. both h.1 k.1)

pub one-write-signature : OneWrite mt-write-signature.Learnt (λ κs s. s.0.now)
one-write-signature = (λ κs a x y s t h k. both (h.0 Little) (k.0 Little), λ κs a x y s t h k. both (h.1 Little) (k.1 Little))
