-- A chunk is stored in front of what is left; behind the last chunk the rest is what is left.
use Rattle.std.proofs.Common.{◌≡◌, ◌*◌, ◌/◌, ◌<◌, [], arith, rules, length, drop, sym, ap, ◌∙◌}
use Rattle.std.proofs.Math.ListN.{drop_of_length-le}
use Rattle.std.proofs.lemmas.List.Edits.{sets}
use Rattle.write.proofs.store.Stores.{chunk-turn}
use Rattle.write.proofs.store.copy.Goals as goal

pub loop-eight-preserved : goal.loop-eight-preserved
loop-eight-preserved c =
    let l = c.loop-eight in
    let within : l.eight-index < length c.args.val.now / 8 = omega (arith, c.as_chunks.ensures.front_len) in
    (search rules, omega arith, chunk-turn l.buf _ _ c.args.val.now _ l.to l.eight-index c.as_chunks.ensures.front within c.put.ensures l.invariant.2)

pub returns : goal.returns
returns c =
    let l = c.loop-eight in
    let n = length c.args.val.now / 8 in
    let all : 8 * l.eight-index ≡ n * 8 = omega (arith, c.as_chunks.ensures.front_len) in
    let rest : drop (8 * l.eight-index) c.args.val.now ≡ c.as_chunks.result.1.now = rw all (sym c.as_chunks.ensures.back) in
    let none : drop c.loop-b.b-index c.as_chunks.result.1.now ≡ [] = drop_of_length-le _ {i = c.loop-b.b-index} (omega arith) in
    let stored : c.loop-b.buf ≡ sets l.buf l.to c.as_chunks.result.1.now = rw none at c.loop-b.invariant.2 in
    stored ∙ ap (sets l.buf l.to) (sym rest) ∙ l.invariant.2
