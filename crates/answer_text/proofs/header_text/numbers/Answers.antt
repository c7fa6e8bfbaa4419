-- Each turn puts one more behind those so far; the array holds the header's numbers.
use Rattle.std.proofs.Common.{◌≡◌, refl, ℕ, List, [], ◌∷◌, get_or, subst, arith}
use Rattle.text_out.specs.Puts.{Puts}
use Rattle.answer_text.specs.Headers.{numbers_of, number_texts, each_texts}
use Rattle.answer_text.proofs.header_text.HeaderLaws.{nothing, turn}
use Rattle.answer_text.proofs.header_text.numbers.Goals as goal

pub loop-n-init : goal.loop-n-init
unfolding each_texts
loop-n-init c = (refl, nothing)

pub loop-n-preserved : goal.loop-n-preserved
loop-n-preserved c =
    let h = c.args.h in
    let l = c.loop-n in
    let put = c.labelled-behind in
    let held : (c.from.result ∷ c.from-2.result ∷ c.from-3.result ∷ c.from-4.result ∷ h.body.0 ∷ h.body_length.0 ∷ []) ≡ numbers_of h = cc in
    let one = subst (λ (ns : List ℕ). Puts l.out l.behind (number_texts (get_or ns l.n-index 0)) put.result put.new.out) held put.ensures in
    (omega arith, turn number_texts (numbers_of h) l.n-index _ (omega arith) l.invariant.1 one)
