-- The length first, then a signature of one byte by itself, then the pass over the bytes.
use mathlib.Core.Path.{ap, sym, ◌∙◌}
use Rattle.meaning.specs.ReadValue.{counted_of}
use Rattle.std.specs.Prelude.{Err}
use Rattle.signature.proofs.RunLaws.{too_long, not-long}
use Rattle.signature.proofs.parse_description.Goals as goal

pub returns-then-sig-gt-MOST : goal.returns-then-sig-gt-MOST
returns-then-sig-gt-MOST c = ap Err c.refuse.ensures ∙ sym (too_long c.args.sig.now c.if-sig-gt-MOST.true)

pub returns : goal.returns
returns c = c.parse_bytes.ensures ∙ ap counted_of (sym (not-long c.args.sig.now c.if-sig-gt-MOST.false))
