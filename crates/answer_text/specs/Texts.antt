-- The texts of each answer, in the order in which they stand.
use Rattle.std.specs.Prelude.{ℕ, List, [], ◌∷◌, ◌++◌, Result, Ok, Err}
use Rattle.meaning.specs.Faults.{number_of}
use Rattle.meaning.specs.declared.Refusal.{Refusal}
use Rattle.meaning.specs.declared.Length.{Length}
use Rattle.meaning.specs.declared.Place.{Place}
use Rattle.text_out.specs.Digits.{bytes_text, decimal}

-- bad
abbrev pub bad_texts : List (List ℕ)
bad_texts = (98 ∷ 97 ∷ 100 ∷ []) ∷ []

-- ok NUMBER
abbrev pub ok_texts : ℕ → List (List ℕ)
ok_texts n = (111 ∷ 107 ∷ 32 ∷ []) ∷ decimal n ∷ []

-- no POSITION NUMBER
abbrev pub refused_texts : Refusal → List (List ℕ)
refused_texts r = (110 ∷ 111 ∷ 32 ∷ []) ∷ decimal r.place.0 ∷ (32 ∷ []) ∷ decimal (number_of r.fault) ∷ []

abbrev pub checked_texts : Result Length Refusal → List (List ℕ)
checked_texts (Ok n) = ok_texts n.0
checked_texts (Err r) = refused_texts r

abbrev pub counted_texts : Result ℕ Refusal → List (List ℕ)
counted_texts (Ok n) = ok_texts n
counted_texts (Err r) = refused_texts r

-- a buffer's bytes behind a space
abbrev pub buffer_texts : List ℕ → List (List ℕ)
buffer_texts b = (32 ∷ []) ∷ bytes_text b ∷ []

abbrev pub written_texts : Result Place Refusal → List ℕ → List (List ℕ)
written_texts (Ok p) b = ok_texts p.0 ++ buffer_texts b
written_texts (Err r) b = refused_texts r ++ buffer_texts b

-- text BYTES
abbrev pub text_texts : List ℕ → List (List ℕ)
text_texts b = (116 ∷ 101 ∷ 120 ∷ 116 ∷ 32 ∷ []) ∷ bytes_text b ∷ []
