-- Which part of a message a lookup finds: document 01, port order 6.
use Rattle.std.specs.Prelude.{ℕ, eqb, Result, Ok, Err}
use Rattle.meaning.specs.Text.{pick}
use Rattle.meaning.specs.declared.Entry.{Entry}
use Rattle.meaning.specs.declared.Entry.TheVariants.{Absent}
use Rattle.meaning.specs.declared.Fields.{Fields}
use Rattle.meaning.specs.declared.Header.{Header}
use Rattle.meaning.specs.declared.Refusal.{Refusal}

-- the entry of a field that holds a text, by its code; none for "a code outside 1 2 3 4 6 7 8"
abbrev pub text_at : ℕ → Fields → Entry
text_at c f =
    pick (eqb c 1) f.object
    (pick (eqb c 2) f.interface
    (pick (eqb c 3) f.member (pick (eqb c 4) f.error_name (pick (eqb c 6) f.destination (pick (eqb c 7) f.sender (pick (eqb c 8) f.signature Absent))))))

-- none "also for a refused message"
abbrev pub found_in : Result Header Refusal → ℕ → Entry
found_in (Ok h) c = text_at c h.fields
found_in (Err x) c = Absent
