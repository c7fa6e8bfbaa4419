-- Texts that are put one behind the other.
use Prim.Native.Nat.{ℕ}
use mathlib.Core.Path.{◌≡◌, refl, ◌∙◌}
use mathlib.Core.List.{List, [], ◌∷◌, ◌++◌}
use Rattle.text_out.specs.Puts.{put_text, put_all, Puts}

append : (out : List ℕ) (at : ℕ) (xs ys : List (List ℕ)) → put_all out at (xs ++ ys) ≡ put_all (put_all out at xs).after (put_all out at xs).place ys
unfolding put_all
append out at [] ys = refl
append out at (x ∷ xs) ys = append (put_text out at x).after (put_text out at x).place xs ys

-- what is left to put once some texts are there
pub rest : {out b : List ℕ} {at p : ℕ} {xs : List (List ℕ)} (ys : List (List ℕ)) → Puts out at xs p b → put_all out at (xs ++ ys) ≡ put_all b p ys
rest {out} {b} {at} {p} {xs} ys g = append out at xs ys ∙ rw (← g.place, ← g.after)

-- some texts, and behind them others
pub then : {out b e : List ℕ} {at p q : ℕ} {xs ys : List (List ℕ)} → Puts out at xs p b → Puts b p ys q e → Puts out at (xs ++ ys) q e
then {out} {b} {e} {at} {p} {q} {xs} {ys} g h =
    let l = rest ys g in record { place = rw l h.place; after = rw l h.after }
