-- What the first 12 bytes of a message say, in terms of the readers of the meaning crate.
use Rattle.std.specs.Prelude.{ℕ, Result, Ok, Err}
use Rattle.meaning.specs.Reader.{Res, got, fault}
use Rattle.meaning.specs.Message.{Fixed}
use Rattle.header.specs.declared.fixed_header.Start.{Start}
use Rattle.meaning.specs.declared.Refusal.{Refusal}

-- the first 12 bytes, with the body's length
abbrev pub start_of : Fixed × ℕ → Start
start_of h = record { order = h.0.order; kind = h.0.kind; flags = h.0.flags; version = h.0.version; serial = h.0.serial; body = record { 0 = h.1 } }

abbrev pub began_of : Res (Fixed × ℕ) → Result Start Refusal
began_of (got h e) = Ok (start_of h)
began_of (fault x) = Err x
