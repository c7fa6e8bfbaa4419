-- The check of a message answers as its header is read.
use Prim.Native.Nat.{ℕ, ◌-◌}
use native.Mathlib.Omega.{arith}
use mathlib.Core.List.{List}
use mathlib.Core.Path.{◌≡◌, refl, ap, sym, ◌∙◌}
use Rattle.std.specs.Prelude.{Result, Ok, Err}
use Rattle.meaning.specs.declared.Header.{Header}
use Rattle.meaning.specs.declared.Refusal.{Refusal}
use Rattle.meaning.specs.declared.Length.{Length}
use Rattle.meaning.specs.Message.{Message}
use Rattle.meaning.specs.Reader.{Res, got, fault}
use Rattle.meaning.specs.ReadValue.{checked_of}
use Rattle.meaning.specs.ReadMessage.{read_message, check_message}
use Rattle.meaning.specs.Header.{header_from, read_header}

-- a check is a header's length
abbrev pub checked_from : Result Header Refusal → Result Length Refusal
checked_from (Ok h) = Ok h.length
checked_from (Err x) = Err x

pub check-is : (b : List ℕ) (q : Result Header Refusal) → q ≡ read_header b → checked_from q ≡ check_message b
unfolding read_header check_message
check-is b q h = ap checked_from h ∙ go (read_message b 0)
  where
    go : (x : Res Message) → checked_from (header_from x) ≡ checked_of 0 x
    go (got m e) = let z : e - 0 ≡ e = omega arith in ap (λ (n : ℕ). Ok (record { 0 = n })) (sym z)
    go (fault x) = refl
