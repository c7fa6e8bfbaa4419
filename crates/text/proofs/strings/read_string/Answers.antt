-- It is `sized` with a length of four bytes, and no zeros allowed.
use Rattle.meaning.specs.ReadValue.{read_text}
use Rattle.text.proofs.strings.Strings.{no_field}
use Rattle.text.proofs.strings.read_string.Goals as goal

pub returns-then-buf-off-lt4 : goal.returns-then-buf-off-lt4
unfolding read_text
returns-then-buf-off-lt4 c = no_field _ 4 _ _ _ c.requires c.if-buf-off-lt4.true _ c.refuse.ensures

pub returns : goal.returns
unfolding read_text
returns c = c.sized.ensures _ c.load32-len.ensures.is
