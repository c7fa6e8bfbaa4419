-- By the case of the entry.
use Rattle.text_out.proofs.PutLaws.{then}
use Rattle.answer_text.proofs.header_text.entry.Goals as goal

pub returns-in-Absent : goal.returns-in-Absent
returns-in-Absent c = rw c.in-Absent.is c.put.ensures

pub returns-in-Number : goal.returns-in-Number
returns-in-Number c = rw c.in-Number.is (rw c.from.ensures at c.labelled.ensures)

pub returns-in-Text : goal.returns-in-Text
returns-in-Text c = rw c.in-Text.is (then c.labelled-behind.ensures c.labelled-in-Text.ensures)
