-- What the functions of this crate answer, in terms of the readers of the meaning crate.
use Rattle.std.specs.Prelude.{ℕ, ◌+◌, ◌-◌, List, length, Result, Ok, Err}
use Rattle.meaning.specs.declared.Order.{Order}
use Rattle.meaning.specs.Types.{Ty}
use Rattle.meaning.specs.Signature.{parse, Parsed, types, refused}
use Rattle.meaning.specs.Faults.{refusal}
use Rattle.meaning.specs.Reader.{Res, got, fault, R, here, ◌>>=◌}
use Rattle.meaning.specs.ReadValue.{read_sig, accept, single}
use Rattle.meaning.specs.declared.Part.{Part}
use Rattle.meaning.specs.declared.Refusal.{Refusal}
use Rattle.meaning.specs.declared.Place.{Place}
use Rattle.basic.specs.declared.spelled.Misspelt.{Misspelt}
use Rattle.basic.specs.declared.spelled.Misspelt.TheVariants.{Text, Grammar}

-- the types that a signature among the bytes spells
unfoldable pub spelled_r : Order → R (List Ty)
spelled_r o = here >>= λ p. read_sig o >>= λ s. accept (parse s) p

-- how many they are, and the place after them, e; or the grammar's refusal, at p
abbrev pub spelt_by : Parsed → ℕ → ℕ → Result (ℕ × Place) Misspelt
spelt_by (types ts) p e = Ok (length ts, record { 0 = e })
spelt_by (refused k) p e = Err (Grammar (refusal k p))

-- what the signature whose text was sought at p spells
abbrev pub spelt_of : ℕ → Res (List ℕ) → Result (ℕ × Place) Misspelt
spelt_of p (got s e) = spelt_by (parse s) p e
spelt_of p (fault x) = Err (Text x)

-- the refusal that it stands for, whichever it is
abbrev pub refusal_in : Misspelt → Refusal
refusal_in (Text x) = x
refusal_in (Grammar x) = x

-- a variant's type
unfoldable pub variant_type_r : Order → R Ty
variant_type_r o = here >>= λ p. spelled_r o >>= λ ts. single ts p

-- where a variant's signature begins, and how long it is: it lies between the byte that says how long it is and the zero after it
abbrev pub inner_of : ℕ → Res Ty → Result Part Refusal
inner_of off (got t e) = Ok (record { 0 = record { 0 = off + 1 }; 1 = record { 0 = e - 1 - (off + 1) } })
inner_of off (fault x) = Err x
