-- Each return is one of the three answers.
use mathlib.Core.Path.{sym, ◌∙◌}
use Rattle.stream.proofs.Laws.{is_whole, is_cut, is-refused-whole, is-refused}
use Rattle.stream.proofs.next_message.Goals.{else-is_short-via-then-is_short+else-buf-size, else-is_short-via-else-is_short}
use Rattle.stream.proofs.next_message.Goals as goal

pub returns-in-Ok : goal.returns-in-Ok
returns-in-Ok c =
    let it = is_whole _ _ c.unmarshal_header.ensures _ c.in-Ok.is in
    record { value = it.0; within = it.1 }

pub returns-then-buf-size-clause-value : goal.returns-then-buf-size-clause-value
returns-then-buf-size-clause-value c =
    let short = sym c.is_short.ensures ∙ c.if-is_short.true in
    is_cut _ _ c.unmarshal_header.ensures _ c.in-Err.is _ c.stated_size-size.ensures short c.if-buf-size.true

pub returns-else-is_short-clause-value : goal.returns-else-is_short-clause-value
returns-else-is_short-clause-value c = elim c.else-is_short.branch [
  | else-is_short-via-then-is_short+else-buf-size w ↦
      let short = sym c.is_short.ensures ∙ w.if-is_short.true in
      is-refused-whole _ _ c.unmarshal_header.ensures _ c.in-Err.is _ c.stated_size-size.ensures short w.if-buf-size.false
  | else-is_short-via-else-is_short w ↦
      is-refused _ _ c.unmarshal_header.ensures _ c.in-Err.is _ c.stated_size-size.ensures (sym c.is_short.ensures ∙ w.if-is_short.false)
]
