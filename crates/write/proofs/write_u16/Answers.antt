-- The table says how wide the number is.
use Rattle.meaning.specs.Types.{u16}
use Rattle.types.proofs.CodeLaws.{size_is, size-aligns}
use Rattle.write.proofs.write_u16.Goals as goal

pub returns : goal.returns
returns c =
    let width = size_is u16 _ c.size.ensures in
    record {
      value = rw width at c.write_integer.ensures.value;
      buf_after = rw width at c.write_integer.ensures.buf_after;
    }

pub write_integer-requires : goal.write_integer-requires
write_integer-requires c = size-aligns u16 _ c.size.ensures
