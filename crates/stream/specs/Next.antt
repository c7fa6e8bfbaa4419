-- What stands next in a stream, by the bytes of it that are there.
use Rattle.std.specs.Prelude.{ℕ, ◌≤◌, Bool, true, false, cond, List, length, ltb, Result, Ok, Err}
use Rattle.meaning.specs.declared.Refusal.{Refusal}
use Rattle.meaning.specs.declared.Header.{Header}
use Rattle.meaning.specs.Faults.{is_short}
use Rattle.meaning.specs.Header.{read_header}
use Rattle.meaning.specs.ReadMessage.{message_size}
use Rattle.stream.specs.declared.Next.{Next}
use Rattle.stream.specs.declared.Next.TheVariants.{Whole, Cut, Refused}

-- what the first 16 bytes say of the length; before they are there, they are what a message has at least
unfoldable pub stated_size : List ℕ → ℕ
stated_size b = cond (ltb (length b) 16) 16 (message_size b)

-- a refusal as too short stands for bytes that are still to come only where there are fewer than stated
abbrev pub refused_as : Bool → Bool → ℕ → Refusal → Next
refused_as true true s x = Cut (record { 0 = s })
refused_as true false s x = Refused x
refused_as false fewer s x = Refused x

abbrev pub next_from : Result Header Refusal → ℕ → ℕ → Next
next_from (Ok h) n s = Whole h
next_from (Err x) n s = refused_as (is_short x.fault) (ltb n s) s x

unfoldable pub next_of : List ℕ → Next
next_of b = next_from (read_header b) (length b) (stated_size b)

-- a whole message lies in the bytes that are there
abbrev pub Within : ℕ → Next → Type 0
Within n (Whole h) = h.length.0 ≤ n
Within n (Cut s) = Unit {0}
Within n (Refused x) = Unit {0}
