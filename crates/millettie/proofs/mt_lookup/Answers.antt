-- The part that the entry says, or all of the fallback.
use mathlib.Core.Path.{ap, ◌∙◌}
use lib.ListN.{length}
use Rattle.meaning.specs.declared.Entry.{Entry}
use Rattle.structs.specs.Answers.{part_of}
use borrow.Author.Rules.{rules}
use Rattle.millettie.proofs.mt_lookup.Goals as goal

pub returns : goal.returns
returns c = c.of_found.ensures ∙ ap (λ (e : Entry). part_of e (length c.args.fallback.now)) c.find.ensures
