-- One turn of a loop that puts the texts of each element.
use Rattle.std.proofs.Common.{◌≡◌, refl, ℕ, ◌+◌, ◌<◌, List, [], ◌∷◌, ◌++◌, length, take, get_or}
use Rattle.std.proofs.lemmas.List.{append_assoc, append-nil, take_more}
use Rattle.text_out.specs.Puts.{put_all, Puts}
use Rattle.text_out.proofs.PutLaws.{then}
use Rattle.answer_text.specs.Headers.{each_texts}

-- before the first
pub nothing : {out : List ℕ} {at : ℕ} → Puts out at [] at out
unfolding put_all
nothing = record { place = refl; after = refl }

module _ {A : Type 0} (texts : A → List (List ℕ)) where
  append : (xs ys : List A) → each_texts texts (xs ++ ys) ≡ each_texts texts xs ++ each_texts texts ys
  unfolding each_texts
  append [] ys = refl
  append (x ∷ xs) ys = rw (append xs ys, append_assoc)

  pub turn : {a b c : List ℕ} {at p q : ℕ} (xs : List A) (i : ℕ) (d : A) → i < length xs → Puts a at (each_texts texts (take i xs)) p b
      → Puts b p (texts (get_or xs i d)) q c → Puts a at (each_texts texts (take (i + 1) xs)) q c
  unfolding each_texts
  turn xs i d h g k =
      let more : each_texts texts (take (i + 1) xs) ≡ each_texts texts (take i xs) ++ texts (get_or xs i d) =
      rw (take_more xs i d h, append, append-nil) in
      rw more (then g k)
