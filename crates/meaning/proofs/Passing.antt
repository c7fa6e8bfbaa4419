-- What `?` hands on is the refusal that it was given.
use mathlib.Core.Path.{refl}
use Rattle.std.specs.Prelude.{◌≡◌, Result, Err, IsErr, IsErrAnd}
use Rattle.std.proofs.lemmas.Result.{err_from_is_err_and}
use Rattle.meaning.specs.declared.Refusal.{Refusal}

pub handed-on : {A : Type 0} (r : Result A Refusal) (x : Refusal) → IsErr r × IsErrAnd r (λ y. y ≡ x) → r ≡ Err x
handed-on r x h = let p = err_from_is_err_and r h.1 in rw (p.1, p.2) refl
