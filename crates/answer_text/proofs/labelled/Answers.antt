-- A word, and behind it the number.
use mathlib.Core.Path.{◌≡◌}
use mathlib.Core.List.{[], ◌∷◌}
use Rattle.text_out.specs.Puts.{put_all}
use Rattle.text_out.proofs.PutLaws.{then}
use Rattle.answer_text.proofs.labelled.Goals as goal

pub returns : goal.returns
returns c =
    let a = c.args in
    let put = c.put-behind in
    let place : put.result ≡ (put_all a.out.now a.at (a.word.now ∷ [])).place = put.ensures.place in
    then (record { place = place; after = put.ensures.after }) c.put_number.ensures
