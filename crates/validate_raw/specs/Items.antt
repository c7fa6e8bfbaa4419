-- What an array or a dict holds, by the type that stands at the place of its element.
use Rattle.std.specs.Prelude.{ℕ}
use Rattle.meaning.specs.Types.{Base, in_array, loose, Ty, base, arr, dict, struct, variant, align, whole}

-- the elements of an array, or the entries of a dict
pub data Item : Type 0 where
  single : Ty → Item
  pair : Base → Ty → Item

-- no array has dicts alone for elements, so one that stands there is the entry of a dict
abbrev pub item_of : Ty → Item
item_of (base c) = single (base c)
item_of (arr t) = single (arr t)
item_of (dict in_array k t) = single (dict in_array k t)
item_of (dict loose k t) = pair k t
item_of (struct fs) = single (struct fs)
item_of variant = single variant

-- "a dict entry the same" as a struct: aligned to 8
abbrev pub align_item : Item → ℕ
align_item (single t) = align t
align_item (pair k t) = 8

-- what the length of their contents is to be a multiple of: entries are read one by one
abbrev pub whole_item : Item → ℕ
whole_item (single t) = whole t
whole_item (pair k t) = 1
