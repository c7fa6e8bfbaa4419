-- A field's signature by the ways through the code: its text, and then whether it spells exactly one type.
use Prim.Native.Nat.{ℕ, ◌+◌, ◌-◌, ◌≤◌}
use native.Mathlib.Omega.{arith}
use mathlib.Core.List.{List, [], ◌∷◌}
use mathlib.Core.Path.{◌≡◌, ap, sym, ◌∙◌}
use lib.ListN.{length}
use Rattle.meaning.specs.declared.Order.{Order}
use Rattle.meaning.specs.declared.Refusal.{Refusal}
use Rattle.meaning.specs.declared.Fault.TheVariants.{NoSignature}
use Rattle.meaning.specs.declared.Place.{Place}
use Rattle.meaning.specs.Faults.{refusal}
use Rattle.meaning.specs.Types.{Ty}
use Rattle.meaning.specs.Signature.{parse, Parsed, types, refused}
use Rattle.meaning.specs.Reader.{got, fault, ret, fail}
use Rattle.meaning.specs.ReadValue.{read_sig}
use Rattle.meaning.specs.ReadMessage.{one_type}
use Rattle.meaning.proofs.Local.{bind-got, bind-fault}
use Rattle.std.specs.Prelude.{Result, Ok, Err}
use Rattle.basic.specs.declared.spelled.Misspelt.{Misspelt}
use Rattle.basic.specs.declared.spelled.Misspelt.TheVariants.{Text, Grammar}
use Rattle.basic.specs.Spelled.{spelt_of}
use Rattle.basic.proofs.spelled.SpellLaws.{spelt-says, spelt-within, type-stands}
use Rattle.header.specs.HeaderField.{one_type_r, OneIs}

module _ (o : Order) (buf : List ℕ) (off : ℕ) (w : off ≤ length buf) where
  abbrev Spells : Result (ℕ × Place) Misspelt → Type 0
  Spells q = q ≡ spelt_of off (read_sig o buf off)

  judged : (s : List ℕ) (e : ℕ) (q : Parsed) → read_sig o buf off ≡ got s e → parse s ≡ q → one_type_r o buf off ≡ one_type q buf e
  unfolding one_type_r
  judged s e q r k = bind-got (read_sig o) (λ s. one_type (parse s)) buf off s e r ∙ ap (λ (y : Parsed). one_type y buf e) k

  pub one-stop : (x : Refusal) → Spells (Err (Text x)) → OneIs (Err x) o buf off
  unfolding OneIs one_type_r
  one-stop x h = bind-fault (read_sig o) (λ s. one_type (parse s)) buf off x (spelt-says o buf off (Err (Text x)) h)

  pub one-refused : (x y : Refusal) → Spells (Err (Grammar y)) → x ≡ refusal NoSignature 0 → OneIs (Err x) o buf off
  unfolding OneIs one_type fail
  one-refused x y h e = let i = spelt-says o buf off (Err (Grammar y)) h in rw e (judged i.text i.past (refused i.why) i.reads i.parses)

  pub one-other : (n : ℕ) (p : Place) (x : Refusal) → Spells (Ok (n, p)) → (n ≡ 1 → ⊥) → x ≡ refusal NoSignature 0 → OneIs (Err x) o buf off
  unfolding OneIs one_type fail
  one-other n p x h z e = let i = spelt-says o buf off (Ok (n, p)) h in go i.list (judged i.text p.0 (types i.list) i.reads i.parses) i.counts
    where
      go : (ts : List Ty) → one_type_r o buf off ≡ one_type (types ts) buf p.0 → n ≡ length ts → one_type_r o buf off ≡ fault x
      go [] q l = rw e q
      go (t ∷ []) q l = absurd (z l)
      go (t ∷ u ∷ ts) q l = rw e q

  pub one-read : (n : ℕ) (p : Place) → Spells (Ok (n, p)) → n ≡ 1 → OneIs (Ok (record { 0 = record { 0 = off + 1 }; 1 = record { 0 = p.0 - 1 - (off + 1) } })) o buf off
  unfolding OneIs one_type ret
  one-read n p h z = let i = spelt-says o buf off (Ok (n, p)) h in go i.text i.list i.reads i.parses i.counts
    where
      go : (s : List ℕ) (ts : List Ty) → read_sig o buf off ≡ got s p.0 → parse s ≡ types ts → n ≡ length ts
          → OneIs (Ok (record { 0 = record { 0 = off + 1 }; 1 = record { 0 = p.0 - 1 - (off + 1) } })) o buf off
      go s [] r q l = absurd (omega arith)
      go s (t ∷ u ∷ ts) r q l = absurd (omega arith)
      go s (t ∷ []) r q l =
          let v = spelt-within o buf off w n p h in
          let back : off + 1 + (p.0 - 1 - (off + 1)) + 1 ≡ p.0 = omega arith in (
            omega arith,
            omega arith,
            (
              t,
              judged s p.0 (types (t ∷ [])) r q ∙ ap (λ (m : ℕ). got t m) (sym back),
              type-stands o buf off w s p.0 r t q,
            ),
          )
