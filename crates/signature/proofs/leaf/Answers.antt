-- The type lies where the stack is, which decides whether it lies too deep; then it is put.
use Rattle.meaning.specs.Signature.{put}
use Rattle.meaning.specs.Types.{variant}
use Rattle.signature.proofs.MarkLaws.{leaf-takes, leaf-variant}
use mathlib.Core.Path.{refl}
use Rattle.signature.proofs.leaf.Goals as goal

pub put-requires : goal.put-requires
put-requires c =
    let r = c.requires in
    record {
      to = put r.stack variant;
      whole = record
          { stack = r.stack; type = variant; is = refl; takes = leaf-takes variant leaf-variant r.follows c.shallow.ensures };
      room = r.room;
    }
