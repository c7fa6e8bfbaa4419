-- The position, then the number of the fault.
use mathlib.Core.Path.{◌≡◌}
use mathlib.Core.List.{[], ◌∷◌}
use Rattle.text_out.specs.Digits.{decimal}
use Rattle.text_out.specs.Puts.{put_all}
use Rattle.text_out.proofs.PutLaws.{then}
use Rattle.answer_text.proofs.refused.Goals as goal

pub returns : goal.returns
returns c =
    let a = c.args in
    let no = c.labelled-behind in
    let place : no.result ≡ (put_all a.out.now a.at ((110 ∷ 111 ∷ 32 ∷ []) ∷ decimal a.r.place.0 ∷ [])).place = no.ensures.place in
    then (record { place = place; after = no.ensures.after })
    (rw (c.from.ensures, c.number.ensures) at c.labelled.ensures)
