-- A header as text: ok LENGTH l|B TYPE FLAGS VERSION SERIAL BODY_PLACE BODY_LENGTH, and the nine fields.
use Rattle.std.specs.Prelude.{ℕ, List, [], ◌∷◌, ◌++◌, Result, Ok, Err}
use Rattle.meaning.specs.Message.{mark, kind_code}
use Rattle.meaning.specs.declared.Entry.{Entry}
use Rattle.meaning.specs.declared.Entry.TheVariants.{Absent, Number, Text}
use Rattle.meaning.specs.declared.Fields.{Fields}
use Rattle.meaning.specs.declared.Header.{Header}
use Rattle.meaning.specs.declared.Refusal.{Refusal}
use Rattle.text_out.specs.Digits.{decimal}
use Rattle.answer_text.specs.Texts.{ok_texts, refused_texts}

abbrev pub mark_texts : ℕ → List (List ℕ)
mark_texts c = (32 ∷ c ∷ []) ∷ []

-- what stands between the byte order and the fields
abbrev pub numbers_of : Header → List ℕ
numbers_of h = kind_code h.kind ∷ h.flags ∷ h.version ∷ h.serial ∷ h.body.0 ∷ h.body_length.0 ∷ []

-- the texts of each element, in order
unfoldable pub each_texts : {A : Type 0} → (A → List (List ℕ)) → List A → List (List ℕ)
each_texts texts [] = []
each_texts texts (x ∷ xs) = texts x ++ each_texts texts xs

-- a number behind a space
abbrev pub number_texts : ℕ → List (List ℕ)
number_texts n = (32 ∷ []) ∷ decimal n ∷ []

abbrev pub head_texts : Header → List (List ℕ)
head_texts h = ok_texts h.length.0 ++ (mark_texts (mark h.order) ++ each_texts number_texts (numbers_of h))

abbrev pub entries_of : Fields → List Entry
entries_of f =
    f.object ∷ f.interface ∷ f.member ∷ f.error_name ∷ f.response_serial ∷ f.destination ∷ f.sender ∷ f.signature ∷ f.num_fds ∷ []

-- `-`, n:NUMBER or t:PLACE:LENGTH
abbrev pub entry_texts : Entry → List (List ℕ)
entry_texts Absent = (32 ∷ 45 ∷ []) ∷ []
entry_texts (Number n) = (32 ∷ 110 ∷ 58 ∷ []) ∷ decimal n ∷ []
entry_texts (Text p n) = (32 ∷ 116 ∷ 58 ∷ []) ∷ decimal p.0 ∷ (58 ∷ []) ∷ decimal n.0 ∷ []

abbrev pub whole_texts : Header → List (List ℕ)
whole_texts h = head_texts h ++ each_texts entry_texts (entries_of h.fields)

abbrev pub header_texts : Result Header Refusal → List (List ℕ)
header_texts (Ok h) = whole_texts h
header_texts (Err r) = refused_texts r
