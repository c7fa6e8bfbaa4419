-- What the first two bytes of a message say, or the refusal of a byte that says nothing.
use Rattle.std.specs.Prelude.{ℕ, true, false, Result, Ok, Err}
use Rattle.meaning.specs.ReadMessage.{is_mark, order_of, is_kind, kind_of}
use Rattle.meaning.specs.Faults.{refusal}
use Rattle.meaning.specs.declared.Refusal.{Refusal}
use Rattle.meaning.specs.declared.Fault.TheVariants.{InvalidByteOrder, InvalidMessageType}
use Rattle.meaning.specs.declared.Order.{Order}
use Rattle.meaning.specs.declared.MessageType.{MessageType}

abbrev pub order_from : ℕ → Result Order Refusal
order_from c = elim (is_mark c) [ true ↦ Ok (order_of c) | false ↦ Err (refusal InvalidByteOrder 0) ]

abbrev pub kind_from : ℕ → Result MessageType Refusal
kind_from c = elim (is_kind c) [ true ↦ Ok (kind_of c) | false ↦ Err (refusal InvalidMessageType 0) ]
