-- The test of an object path accepts exactly the paths.
use Prim.Native.Nat.{ℕ}
use mathlib.Core.Bool.{Bool, true, false, ◌&&◌}
use mathlib.Core.List.{List, [], ◌∷◌, ◌++◌}
use mathlib.Core.Path.{◌≡◌, refl, ap, sym, subst}
use lib.Dec.{eqb, T, eqb→eq}
use Rattle.meaning.specs.Text.{name_byte, name_bytes, is_name, slashed, path_of, are_names, IsPath, names, is_path}
use Rattle.meaning.proofs.Booleans.{and_left, and_right, and_both}

-- a slash is no byte of a name
not-slash : (c : ℕ) → T (name_byte c) → eqb c 47 ≡ false
not-slash c h = go (eqb c 47) refl
  where
    go : (a : Bool) → eqb c 47 ≡ a → eqb c 47 ≡ false
    go true e = let z : c ≡ 47 = eqb→eq c 47 (subst T (sym e) tt) in absurd (subst (λ (x : ℕ). T (name_byte x)) z h)
    go false e = e

-- inside a name, and right after a slash
Tail : List ℕ → Type 0
Tail s = (n : List ℕ) × (ns : List (List ℕ)) × T (name_bytes n) × T (are_names ns) × (s ≡ n ++ slashed ns)

Head : List ℕ → Type 0
Head s = (n : List ℕ) × (ns : List (List ℕ)) × T (is_name n) × T (are_names ns) × (s ≡ n ++ slashed ns)

mutual
  unfolding names Tail Head name_bytes are_names slashed

  tail_of : (s : List ℕ) → T (names s false) → Tail s
  tail_of [] h = ([], [], tt, tt, refl)
  tail_of (c ∷ cs) h = go (eqb c 47) refl (λ q. head_of cs q) (λ q. tail_of cs q)
    where
      go : (a : Bool) → eqb c 47 ≡ a → (T (names cs true) → Head cs) → (T (names cs false) → Tail cs) → Tail (c ∷ cs)
      go true e f g =
          let z : c ≡ 47 = eqb→eq c 47 (subst T (sym e) tt) in
          let i = f (rw (e, names) at h) in
          ([], i.0 ∷ i.1, tt, and_both (is_name i.0) (are_names i.1) i.2 i.3, rw (z, i.4))
      go false e f g =
          let k : T (name_byte c && names cs false) = rw (e, names) at h in
          let i = g (and_right (name_byte c) (names cs false) k) in
          (c ∷ i.0, i.1, and_both (name_byte c) (name_bytes i.0) (and_left (name_byte c) (names cs false) k) i.2, i.3, ap (λ (x : List ℕ). c ∷ x) i.4)

  head_of : (s : List ℕ) → T (names s true) → Head s
  head_of [] h = absurd h
  head_of (c ∷ cs) h =
      let i = tail_of cs (and_right (name_byte c) (names cs false) h) in
      (c ∷ i.0, i.1, and_both (name_byte c) (name_bytes i.0) (and_left (name_byte c) (names cs false) h) i.2, i.3, ap (λ (x : List ℕ). c ∷ x) i.4)

slash : (c : ℕ) (x y : List ℕ) → c ≡ 47 → x ≡ y → c ∷ x ≡ 47 ∷ y
slash c x y p q = cc

pub path-sound : (s : List ℕ) → T (is_path s) → IsPath s
unfolding is_path IsPath are_names slashed Head
path-sound [] h = absurd h
path-sound (c ∷ []) h = ([], tt, ap (λ (x : ℕ). x ∷ []) (eqb→eq c 47 h))
path-sound (c ∷ d ∷ ds) h =
    let z : c ≡ 47 = eqb→eq c 47 (and_left (eqb c 47) (names (d ∷ ds) true) h) in
    let i = head_of (d ∷ ds) (and_right (eqb c 47) (names (d ∷ ds) true) h) in
    (i.0 ∷ i.1, and_both (is_name i.0) (are_names i.1) i.2 i.3, slash c (d ∷ ds) (i.0 ++ slashed i.1) z i.4)

-- and back
rest-names : (n : List ℕ) (t : List ℕ) → T (name_bytes n) → T (names t false) → T (names (n ++ t) false)
unfolding names name_bytes
rest-names [] t h k = k
rest-names (c ∷ cs) t h k =
    let hc : T (name_byte c) = and_left (name_byte c) (name_bytes cs) h in
    let e : eqb c 47 ≡ false = not-slash c hc in
    rw (e, names) (and_both (name_byte c) (names (cs ++ t) false) hc (rest-names cs t (and_right (name_byte c) (name_bytes cs) h) k))

name-names : (n : List ℕ) (t : List ℕ) → T (is_name n) → T (names t false) → T (names (n ++ t) true)
unfolding names
name-names [] t h k = absurd h
name-names (c ∷ cs) t h k = and_both (name_byte c) (names (cs ++ t) false) (and_left (name_byte c) (name_bytes cs) h) (rest-names cs t (and_right (name_byte c) (name_bytes cs) h) k)

slashed-names : (ns : List (List ℕ)) → T (are_names ns) → T (names (slashed ns) false)
unfolding names are_names slashed
slashed-names [] h = tt
slashed-names (n ∷ ns) h = name-names n (slashed ns) (and_left (is_name n) (are_names ns) h) (slashed-names ns (and_right (is_name n) (are_names ns) h))

path_names : (ns : List (List ℕ)) → T (are_names ns) → T (is_path (path_of ns))
unfolding is_path are_names slashed
path_names [] h = tt
path_names ([] ∷ ns) h = absurd h
path_names ((c ∷ cs) ∷ ns) h = name-names (c ∷ cs) (slashed ns) (and_left (is_name (c ∷ cs)) (are_names ns) h) (slashed-names ns (and_right (is_name (c ∷ cs)) (are_names ns) h))

pub path-complete : (s : List ℕ) → IsPath s → T (is_path s)
unfolding IsPath
path-complete s h = rw h.2 (path_names h.0 h.1)
