-- What the check of a text answers, and what its parts answer.
use Rattle.std.specs.Prelude.{ℕ, suc, Bool, false, List, [], ◌∷◌, Option, Some, None, Result, Ok, Err}
use Rattle.meaning.specs.Faults.{number_of}
use Rattle.meaning.specs.declared.Fault.TheVariants.{InvalidUtf8, StringContainsNullByte}
use Rattle.meaning.specs.Text.{utf8, no_zero, scan, between, pick}
use Rattle.text.specs.declared.BadText.{BadText}
use Rattle.text.specs.declared.BadText.TheVariants.{NotUtf8, HasZero}
use Rattle.text.specs.declared.Due.{Due}

-- document 01's number for each answer: 6 and 7 are refusals, and a fine text has none
abbrev pub text_number : Result (Unit {0}) BadText → ℕ
text_number (Ok u) = 0
text_number (Err NotUtf8) = 6
text_number (Err HasZero) = 7

-- what a text gets; 6 comes before 7: a text that is not UTF-8 is that first, wherever its zeros stand
unfoldable pub text_fault : List ℕ → ℕ
text_fault s = pick (utf8 s) (pick (no_zero s) 0 (number_of StringContainsNullByte)) (number_of InvalidUtf8)

-- how many bytes from 1 to 127 come first
unfoldable pub plain_bytes : List ℕ → ℕ
plain_bytes [] = 0
plain_bytes (c ∷ cs) = pick (between 1 127 c) (suc (plain_bytes cs)) 0

-- whether the rest of a text is UTF-8, where the walk has got to, `None` where it has stopped
abbrev pub goes_on : Option Due → List ℕ → Bool
goes_on (Some d) cs = scan cs d.left d.low d.high
goes_on None cs = false
