-- What is behind the first bytes of a part is a part that begins later.
use Rattle.std.proofs.Common.{◌≡◌, ◌+◌, ◌-◌, ◌≤◌, ℕ, List, length, drop, take, sym, ◌∙◌, ap, arith, subst, length-take}
use Rattle.std.proofs.lemmas.List.{drop-take, drop-drop}
use Rattle.std.specs.List.{slice_range}
use Rattle.inspect.proofs.buffer.Held.take.Goals as goal

part_behind : (xs : List ℕ) (start n end : ℕ) → n ≤ length (slice_range xs start end) →
    slice_range xs (start + n) end ≡ drop n (slice_range xs start end)
part_behind xs start n end within =
    let rest = end - (start + n) in
    let all : end - start ≡ n + rest = omega (arith, length-take (end - start) (drop start xs)) in
    sym (ap (λ k. drop n (take k (drop start xs))) all ∙ drop-take n rest (drop start xs) ∙ ap (take rest) (drop-drop n start xs))

pub returns : goal.returns
returns c =
    let held = c.self.inside in
    let within = subst (λ bytes. c.args.n ≤ length bytes) (sym c.self.view_is) c.requires in
    part_behind held.buffer.items held.start c.args.n held.end within ∙ ap (drop c.args.n) c.self.view_is
