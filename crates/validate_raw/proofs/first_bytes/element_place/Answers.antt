-- Only an array's own code stands before its element.
use mathlib.Core.Path.{sym}
use Rattle.meaning.proofs.PlaceLaws.{start}
use Rattle.validate_raw.proofs.first_bytes.ItemLaws.{place-array, place_other}
use borrow.Author.Rules.{rules}
use Rattle.validate_raw.proofs.first_bytes.element_place.Goals as goal

pub bounds-sig-at : goal.bounds-sig-at
bounds-sig-at c = start c.requires

pub overflow_add-result : goal.overflow_add-result
overflow_add-result c = search rules

pub returns-then-sig-at-eq97 : goal.returns-then-sig-at-eq97
returns-then-sig-at-eq97 c = let a = c.args in sym (place-array a.sig.now a.at c.if-sig-at-eq97.true)

pub returns-else-sig-at-eq97 : goal.returns-else-sig-at-eq97
returns-else-sig-at-eq97 c = sym (place_other _ _ c.if-sig-at-eq97.false)
