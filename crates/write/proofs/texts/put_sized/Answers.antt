-- The length, the bytes and the zero are stored one after the other.
use native.Mathlib.Omega.{arith}
use lib.ListN.{length-set}
use Rattle.write.proofs.texts.Contents.{length-sized, sized-stores}
use Rattle.write.proofs.store.Writes.{no_room, stored}
use Rattle.write.proofs.texts.put_sized.Goals as goal

pub returns-then-buf-at : goal.returns-then-buf-at
returns-then-buf-at c =
    let it = no_room _ _ c.requires.within _ _ (length-sized _ _ _) (omega (arith, c.if-buf-at.true)) _ c.refuse.ensures in
    record { value = it.0; buf_after = it.1 }

pub shape_of-buf : goal.shape_of-buf
shape_of-buf c = simp length-set (omega arith)

pub returns : goal.returns
returns c =
    let asked = c.requires in
    let if1 = c.if-buf-at in
    let store = c.store in
    let it = stored _ _ asked.within _ _ (length-sized _ _ _) (omega (arith, if1.false)) _ (omega arith) _
    (sized-stores _ _ _ _ _ _ _ store.ensures c.copy.ensures) in
    record { value = it.0; buf_after = it.1 }
