-- What is left to store leads to what all of it leads to: chunk by chunk, and then byte by byte.
use Rattle.std.proofs.Common.{◌≡◌, ◌+◌, ◌*◌, length, drop}
use Rattle.std.proofs.lemmas.List.Edits.{sets}
use Rattle.write.proofs.store.copy.Given as goal

abbrev pub invariant-loop-eight : goal.invariant-loop-eight
invariant-loop-eight l = (length l.buf ≡ length l.initial.buf) × (l.to ≡ l.at + 8 * l.eight-index) × (sets l.buf l.to (drop (8 * l.eight-index) l.val) ≡ sets l.initial.buf l.at l.val)

abbrev pub invariant-loop-b : goal.invariant-loop-b
invariant-loop-b l = (length l.buf ≡ length l.initial.buf) × (l.to ≡ l.initial.to + l.b-index) × (sets l.buf l.to (drop l.b-index l.rest) ≡ sets l.initial.buf l.initial.to l.rest)
