-- Demands 2 and 3 of what `unmarshal_header` answers: of every call whose answer meets its contract, as the checker generates it.
use Prim.Native.Nat.{ℕ, ◌-◌}
use native.Mathlib.Omega.{arith}
use mathlib.Core.List.{List}
use mathlib.Core.Path.{◌≡◌, refl, ap, ◌∙◌}
use Rattle.std.specs.Prelude.{Result, Ok, Err}
use Rattle.meaning.specs.declared.Header.{Header}
use Rattle.meaning.specs.declared.Refusal.{Refusal}
use Rattle.meaning.specs.Reader.{Res, got, fault}
use Rattle.meaning.specs.Message.{Message}
use Rattle.meaning.specs.ReadValue.{checked_of}
use Rattle.meaning.specs.ReadMessage.{read_message, check_message}
use Rattle.meaning.specs.Header.{header_from, read_header}
use Rattle.meaning.proofs.Promises.{Told, accepts, refuses, told_of, Answered, MessageDemands, message-demands}
use Rattle.unmarshal.proofs.unmarshal_header.Reads as unmarshal-header

-- a header that is read says how long its message is
abbrev pub told_header : Result Header Refusal → Told
told_header (Ok h) = accepts h.length.0
told_header (Err x) = refuses x

header-from : (x : Res Message) → told_header (header_from x) ≡ told_of (checked_of 0 x)
header-from (got m n) = let e : n ≡ n - 0 = omega arith in ap accepts e
header-from (fault x) = refl

-- reading a header tells what the check of the message tells
pub header-told : (b : List ℕ) → told_header (read_header b) ≡ told_of (check_message b)
unfolding read_header check_message
header-told b = header-from (read_message b 0)

pub demands : MessageDemands (λ (c : Answered unmarshal-header.Learnt). c.args.0.now) (λ c. told_header c.answer)
demands =
    message-demands (λ c. c.args.0.now) (λ c. told_header c.answer) (λ c. ap told_header c.meets ∙ header-told c.args.0.now)
