-- The header that is read has the entry, or the message is refused and has none.
use mathlib.Core.Path.{sym, ap, ◌∙◌}
use Rattle.std.specs.Prelude.{Result}
use Rattle.meaning.specs.declared.Header.{Header}
use Rattle.meaning.specs.declared.Refusal.{Refusal}
use Rattle.lookup.specs.Found.{found_in}
use Rattle.lookup.proofs.find.Goals as goal

pub returns-in-Ok : goal.returns-in-Ok
returns-in-Ok c =
    let a = c.args in
    c.text_entry.ensures ∙ ap (λ (h : Result Header Refusal). found_in h a.code) (sym c.in-Ok.is ∙ c.unmarshal_header.ensures)

pub returns-in-Err : goal.returns-in-Err
returns-in-Err c = ap (λ (h : Result Header Refusal). found_in h c.args.code) (sym c.in-Err.is ∙ c.unmarshal_header.ensures)
