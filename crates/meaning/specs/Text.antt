-- Text: UTF-8 as RFC 3629 defines it, zero bytes, object paths (document 01, port order 2).
use Rattle.std.specs.Prelude.{ℕ, zero, suc, ◌+◌, ◌/◌, ◌%◌, ◌≤◌, ◌<◌, ◌≡◌, ◌⊎◌, Bool, true, false, ◌&&◌, ◌||◌, not, List, [], ◌∷◌, ◌++◌, leb, ltb, eqb, T}

-- RFC 3629, section 3: U+0000 to U+10FFFF without the surrogates U+D800 to U+DFFF
unfoldable pub Scalar : ℕ → Type 0
Scalar x = (x < 0xd800) ⊎ ((0xe000 ≤ x) × (x < 0x110000))

abbrev pub pick : {A : Type 0} → Bool → A → A → A
pick true a b = a
pick false a b = b

-- the same section's table: the bytes of one character, in the shortest form
unfoldable pub encode : ℕ → List ℕ
encode x = pick (ltb x 0x80) (x ∷ [])
    (pick (ltb x 0x800) ((0xc0 + x / 64) ∷ (0x80 + x % 64) ∷ [])
    (pick (ltb x 0x10000) ((0xe0 + x / 4096) ∷ (0x80 + x / 64 % 64) ∷ (0x80 + x % 64) ∷ [])
    ((0xf0 + x / 262144) ∷ (0x80 + x / 4096 % 64) ∷ (0x80 + x / 64 % 64) ∷ (0x80 + x % 64) ∷ [])))

unfoldable pub encode_all : List ℕ → List ℕ
encode_all [] = []
encode_all (x ∷ xs) = encode x ++ encode_all xs

abbrev pub All : (ℕ → Type 0) → List ℕ → Type 0
All P [] = Unit {0}
All P (x ∷ xs) = P x × All P xs

unfoldable pub IsUtf8 : List ℕ → Type 0
IsUtf8 s = (xs : List ℕ) × All Scalar xs × (s ≡ encode_all xs)

-- "Path: `/`, or one or more of `/` followed by `A-Z a-z 0-9 _` (at least one); no slash at the end"
abbrev pub between : ℕ → ℕ → ℕ → Bool
between lo hi c = leb lo c && leb c hi

abbrev pub name_byte : ℕ → Bool
name_byte c = between 65 90 c || between 97 122 c || between 48 57 c || eqb c 95

unfoldable pub name_bytes : List ℕ → Bool
name_bytes [] = true
name_bytes (c ∷ cs) = name_byte c && name_bytes cs

abbrev pub is_name : List ℕ → Bool
is_name [] = false
is_name (c ∷ cs) = name_byte c && name_bytes cs

unfoldable pub slashed : List (List ℕ) → List ℕ
slashed [] = []
slashed (n ∷ ns) = 47 ∷ (n ++ slashed ns)

abbrev pub path_of : List (List ℕ) → List ℕ
path_of [] = 47 ∷ []
path_of (n ∷ ns) = slashed (n ∷ ns)

unfoldable pub are_names : List (List ℕ) → Bool
are_names [] = true
are_names (n ∷ ns) = is_name n && are_names ns

unfoldable pub IsPath : List ℕ → Type 0
IsPath s = (ns : List (List ℕ)) × T (are_names ns) × (s ≡ path_of ns)

-- The same as tests, one pass each: Utf8.antt and Paths.antt prove that they say the same
-- what a first byte asks for: how many bytes follow, and the bounds of the next
pub data Lead : Type 0 where
  follow : ℕ → ℕ → ℕ → Lead
  no_lead : Lead

abbrev pub or : Bool → Lead → Lead → Lead
or true a b = a
or false a b = b

unfoldable pub lead : ℕ → Lead
lead c = or (ltb c 0x80) (follow 0 0 0)
    (or (ltb c 0xc2) no_lead
    (or (ltb c 0xe0) (follow 1 0x80 0xbf)
    (or (ltb c 0xe1) (follow 2 0xa0 0xbf)
    (or (ltb c 0xed) (follow 2 0x80 0xbf)
    (or (ltb c 0xee) (follow 2 0x80 0x9f)
    (or (ltb c 0xf0) (follow 2 0x80 0xbf)
    (or (ltb c 0xf1) (follow 3 0x90 0xbf)
    (or (ltb c 0xf4) (follow 3 0x80 0xbf)
    (or (ltb c 0xf5) (follow 3 0x80 0x8f) no_lead)))))))))

unfoldable pub scan : List ℕ → ℕ → ℕ → ℕ → Bool
scan [] n lo hi = eqb n 0
scan (c ∷ cs) zero lo hi = elim (lead c) [ follow n l h ↦ scan cs n l h | no_lead ↦ false ]
scan (c ∷ cs) (suc n) lo hi = elim (between lo hi c) [ true ↦ scan cs n 0x80 0xbf | false ↦ false ]

unfoldable pub utf8 : List ℕ → Bool
utf8 s = scan s 0 0 0

-- 7: "a zero inside the text"
unfoldable pub no_zero : List ℕ → Bool
no_zero [] = true
no_zero (c ∷ cs) = not (eqb c 0) && no_zero cs

-- after a slash (true) or inside a name (false)
unfoldable pub names : List ℕ → Bool → Bool
names [] true = false
names [] false = true
names (c ∷ cs) true = name_byte c && names cs false
names (c ∷ cs) false = elim (eqb c 47) [ true ↦ names cs true | false ↦ name_byte c && names cs false ]

unfoldable pub is_path : List ℕ → Bool
is_path [] = false
is_path (c ∷ []) = eqb c 47
is_path (c ∷ d ∷ ds) = eqb c 47 && names (d ∷ ds) true
