-- It is `parse` at its width. Written out, so that of a wrong program the check says which operand differs.
use Rattle.util.proofs.integers.parse_u32.Goals as goal

pub returns : goal.returns
returns c = c.parse.ensures
