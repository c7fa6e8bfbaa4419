-- The offset is tested; the rest is the reader on the whole buffer.
use native.Mathlib.Omega.{arith}
use mathlib.Core.Path.{ap, ◌∙◌}
use lib.Seq.{take_all}
use Rattle.meaning.specs.ReadValue.{read_path}
use Rattle.std.specs.Prelude.{Err}
use Rattle.meaning.proofs.ValueLocal.{read_path-local}
use Rattle.util.proofs.Windows.{entry_past, front-read, entry-is, entry-outside}
use Rattle.text.proofs.strings.unmarshal_object_path.Goals as goal

pub returns-then-buf-off : goal.returns-then-buf-off
returns-then-buf-off c = ap Err c.refuse.ensures ∙ entry-outside (read_path c.args.order) _ _ c.if-buf-off.true

pub taken_from-requires : goal.taken_from-requires
taken_from-requires c =
    let a = c.args in
    let read = front-read (read_path c.args.order) _ a.buf.now a.offset.0 _ c.read_path.ensures
    (omega arith) (grind (arith, take_all)) in
    entry_past (read_path c.args.order) (read_path-local c.args.order).bound a.buf.now a.offset.0 _ c.if-buf-off.false read

pub returns : goal.returns
returns c =
    let a = c.args in
    let read = front-read (read_path c.args.order) _ a.buf.now a.offset.0 _ c.read_path.ensures
    (omega arith) (grind (arith, take_all)) in
    c.taken_from.ensures ∙ entry-is (read_path c.args.order) _ _ _ c.if-buf-off.false read
