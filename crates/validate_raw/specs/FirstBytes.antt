-- What the first bytes of a type tell.
use Rattle.std.specs.Prelude.{ℕ, ◌+◌, Bool, ◌||◌, List, get_or, eqb}
use Rattle.types.specs.Codes.{align_code, size_code}
use Rattle.meaning.specs.Text.{pick}

-- "Arrays of y n q u x t h d are only tested for a whole number of elements": the size of such an element by its code, 0 for any other
unfoldable pub whole_code : ℕ → ℕ
whole_code k = pick (eqb k 98) 0 (pick (eqb k 105) 0 (size_code k))

-- the first bytes of arrays, structs, dicts alone and variants
unfoldable pub composite : ℕ → Bool
composite k = eqb k 97 || (eqb k 40 || (eqb k 123 || eqb k 118))

-- where the element of the array that begins at p stands; a dict alone begins with its entry
unfoldable pub element_place : List ℕ → ℕ → ℕ
element_place s p = pick (eqb (get_or s p 0) 97) (p + 1) p

-- the alignment of an array's elements, or of a dict's entries, by the first code
unfoldable pub element_align : ℕ → ℕ
element_align k = pick (eqb k 123) 8 (align_code k)
