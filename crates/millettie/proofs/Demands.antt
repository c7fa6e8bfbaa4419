-- What the exported answers come to, in the customer's words.
use Prim.Native.Nat.{ℕ}
use mathlib.Core.Bool.{Bool, true, false}
use mathlib.Core.List.{List}
use mathlib.Core.Path.{◌≡◌, refl, sym, ap, ◌∙◌}
use lib.ListN.{length, take, drop}
use lib.Seq.{take-length}
use Rattle.meaning.specs.Text.{pick}
use Rattle.meaning.specs.Header.{read_header, lookup}
use Rattle.meaning.specs.declared.Entry.{Entry}
use Rattle.meaning.specs.declared.Entry.TheVariants.{Absent, Number, Text}
use Rattle.meaning.proofs.NumberLaws.{Bytes}
use Rattle.unmarshal.specs.Body.{cut_of}
use Rattle.lookup.specs.Found.{found_in}
use Rattle.lookup.proofs.LookupLaws.{found-is}
use Rattle.structs.specs.Answers.{part_of}
use Rattle.structs.specs.declared.MtPart.{MtPart}

-- the bytes that a part says: of the message, or of the fallback
abbrev pub bytes_of : MtPart → List ℕ → List ℕ → List ℕ
bytes_of p message fallback = take p.length (drop p.place (pick p.in_message message fallback))

part_cut : (e : Entry) (b d : List ℕ) → bytes_of (part_of e (length d)) b d ≡ cut_of d b e
part_cut Absent b d = take-length d
part_cut (Number n) b d = take-length d
part_cut (Text p l) b d = refl

-- the part that `mt_lookup` answers holds document 01's text: the field's, or the caller's fallback
pub part-is-lookup : (b : List ℕ) → Bytes b → (c : ℕ) (d : List ℕ) (r : MtPart) → r ≡ part_of (found_in (read_header b) c) (length d) → bytes_of r b d ≡ lookup b c d
part-is-lookup b y c d r h =
    ap (λ (p : MtPart). bytes_of p b d) h ∙ part_cut (found_in (read_header b) c) b d ∙ sym (found-is b c d y).cut
