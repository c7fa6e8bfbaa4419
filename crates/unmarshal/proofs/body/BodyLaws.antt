-- The values of a body one by one: the types that are left at a place of the signature answer for all of them.
use Prim.Native.Nat.{ℕ, ◌≤◌, ◌<◌}
use native.Mathlib.Omega.{arith}
use mathlib.Core.List.{List, [], ◌∷◌}
use mathlib.Core.Path.{◌≡◌, refl, ap, sym, subst, ◌∙◌}
use lib.ListN.{length, take}
use lib.Seq.{take-length}
use lib.Dec.{T}
use Rattle.meaning.specs.declared.Order.{Order}
use Rattle.meaning.specs.declared.Refusal.{Refusal}
use Rattle.std.specs.Prelude.{Result, Ok, Err}
use Rattle.meaning.specs.declared.Fault.TheVariants.{BodyLeft}
use Rattle.meaning.specs.Faults.{refusal}
use Rattle.meaning.specs.Types.{Ty, Value}
use Rattle.meaning.specs.Signature.{parse, types, spell, spell_all, shape, nest, legal, all_legal}
use Rattle.meaning.specs.Places.{TypeAt, Typed, shape_all}
use Rattle.meaning.specs.Message.{Values}
use Rattle.meaning.specs.Reader.{Res, got, fault, stop, R, ret, ◌>>=◌, ◌>>◌, reached_of}
use Rattle.meaning.specs.ReadValue.{pair_r, read, read_var, read_top}
use Rattle.meaning.specs.ReadMessage.{ended, values_r, body_r}
use Rattle.meaning.proofs.Local.{bind-got, bind-fault, leb-false}
use Rattle.meaning.proofs.MessageLocal.{ended-yes}
use Rattle.meaning.proofs.ValueLocal.{read_top-local}
use Rattle.meaning.proofs.SignatureLaws.{parse-sound}
use Rattle.meaning.proofs.Booleans.{and_left, and_right, and_both}
use Rattle.meaning.proofs.PlaceLaws.{lies, spelled-split}
use Rattle.validate_raw.specs.declared.walk.Spot.{Spot}
use Rattle.validate_raw.specs.Walk.{walked_of}
use Rattle.validate_raw.proofs.walk.WalkLaws.{past-inv, stopped-inv, pair-fault, kept}
use Rattle.unmarshal.specs.Body.{Types, TypesAt}

legal-shapes : (ts : List Ty) → T (all_legal ts) → T (shape_all ts)
unfolding all_legal legal shape_all
legal-shapes [] h = tt
legal-shapes (t ∷ ts) h = and_both (shape t) (shape_all ts) (and_left (shape t) (nest t 0 0) (and_left (legal t) (all_legal ts) h)) (legal-shapes ts (and_right (legal t) (all_legal ts) h))

pub types-start : (s : List ℕ) (ts : List Ty) → parse s ≡ types ts → TypesAt ts s 0
types-start s ts h =
    let i = parse-sound s ts h in
    let same : take (length (spell_all ts)) s ≡ spell_all ts = rw i.1 (take-length (spell_all ts)) in
    record { spelled = record { same = same; ends = ap length i.1 ∙ omega arith; within = omega arith }; shaped = legal-shapes ts i.0 }

-- the first of the types that are left, and the others
pub record Next (ts : List Ty) (s : List ℕ) (p : ℕ) : Type 0 where
  pub first : Ty
  pub others : List Ty
  pub middle : ℕ
  pub is : ts ≡ first ∷ others
  pub here : TypeAt first s p middle
  pub rest : TypesAt others s middle

next-at : (t : Ty) (us : List Ty) (s : List ℕ) (p : ℕ) → TypesAt (t ∷ us) s p → Next (t ∷ us) s p
unfolding spell_all shape_all
next-at t us s p h =
    let i = spelled-split (spell t) h.spelled in
    record {
      first = t;
      others = us;
      middle = i.middle;
      is = refl;
      here = record { spelled = i.left; shaped = and_left (shape t) (shape_all us) h.shaped };
      rest = record { spelled = i.right; shaped = and_right (shape t) (shape_all us) h.shaped };
    }

pub types-next : (ts : List Ty) (s : List ℕ) (p : ℕ) → TypesAt ts s p → p < length s → Next ts s p
unfolding spell_all
types-next [] s p h l = absurd (omega (arith, h.spelled.ends))
types-next (t ∷ us) s p h l = next-at t us s p h

pub types-none : (ts : List Ty) (s : List ℕ) (p : ℕ) → TypesAt ts s p → length s ≤ p → ts ≡ []
types-none [] s p h l = refl
types-none (t ∷ us) s p h l = absurd (let n = next-at t us s p h in omega (arith, (lies n.here).start))

-- the loop at the place i of the signature and at `at` of the bytes
pub record Left (o : Order) (s b : List ℕ) (off i at : ℕ) : Type 0 where
  pub tys : List Ty
  pub stands : TypesAt tys s i
  pub same : (ts : List Ty) → parse s ≡ types ts → reached_of (body_r o ts b off) ≡ reached_of (body_r o tys b at)

module _ (o : Order) (s b : List ℕ) (off : ℕ) where
  pub left-start : Types s → Left o s b off 0 off
  left-start h = record {
    tys = h.tys;
    stands = types-start s h.tys h.parsed;
    same = λ ts q. (let z : ts ≡ h.tys = let y = h.parsed in cc in ap (λ (us : List Ty). reached_of (body_r o us b off)) z);
  }

  abbrev close : (ts : List Ty) → Values ts → R (Values ts)
  close ts vs = ended >> ret vs

  -- a value more
  more : (t : Ty) (us : List Ty) (at : ℕ) (v : Value t) (p : ℕ) → read_top o t b at ≡ got v p → reached_of (body_r o (t ∷ us) b at) ≡ reached_of (body_r o us b p)
  unfolding body_r values_r pair_r ret
  more t us at v p q = go (values_r o us b p) refl
    where
      first : pair_r (read_top o t) (values_r o us) b at ≡ (values_r o us >>= λ y. ret (v, y)) b p
      first = bind-got (read_top o t) (λ x. values_r o us >>= λ y. ret (x, y)) b at v p q

      go : (x : Res (Values us)) → values_r o us b p ≡ x → reached_of ((pair_r (read_top o t) (values_r o us) >>= close (t ∷ us)) b at) ≡ reached_of ((values_r o us >>= close us) b p)
      go (got ys m) z =
          ap reached_of (bind-got (pair_r (read_top o t) (values_r o us)) (close (t ∷ us)) b at (v, ys) m (first ∙ bind-got (values_r o us) (λ y. ret (v, y)) b p ys m z))
          ∙ kept ended (λ u. (v, ys)) b m ∙ sym (kept ended (λ u. ys) b m) ∙ sym (ap reached_of (bind-got (values_r o us) (close us) b p ys m z))
      go (fault x) z =
          ap reached_of (bind-fault (pair_r (read_top o t) (values_r o us)) (close (t ∷ us)) b at x (first ∙ bind-fault (values_r o us) (λ y. ret (v, y)) b p x z))
          ∙ sym (ap reached_of (bind-fault (values_r o us) (close us) b p x z))

  none : (t : Ty) (us : List Ty) (at : ℕ) (x : Refusal) → read_top o t b at ≡ fault x → reached_of (body_r o (t ∷ us) b at) ≡ Err x
  unfolding body_r values_r
  none t us at x q = ap reached_of (bind-fault (pair_r (read_top o t) (values_r o us)) (close (t ∷ us)) b at x (pair-fault (read_top o t) (values_r o us) b at x q))

  module _ (i at : ℕ) (h : Left o s b off i at) where
    module _ (l : i < length s) where
      abbrev next : Next h.tys s i
      next = types-next h.tys s i h.stands l

      pub left_typed : Typed s i
      left_typed = record { ty = next.first; next = next.middle; stands = next.here }

      same_next : (ts : List Ty) → parse s ≡ types ts → reached_of (body_r o ts b off) ≡ reached_of (body_r o (next.first ∷ next.others) b at)
      same_next ts q = h.same ts q ∙ ap (λ (us : List Ty). reached_of (body_r o us b at)) next.is

      module _ (q : Result Spot Refusal) (walks : (t : Ty) (e : ℕ) → TypeAt t s i e → q ≡ walked_of e (read o (read_var o 16) t b at)) where
        answered : q ≡ walked_of next.middle (read_top o next.first b at)
        unfolding read_top
        answered = walks next.first next.middle next.here

        pub left-past : (x : Spot) → at ≤ length b → q ≡ Ok x
            → (i < x.sig.0) × (x.sig.0 ≤ length s) × (at ≤ x.buf.0) × (x.buf.0 ≤ length b) × Left o s b off x.sig.0 x.buf.0
        left-past x k e =
            let p : ℕ = x.buf.0 in
            let j = past-inv next.middle x (read_top o next.first b at) (sym answered ∙ e) in
            let y = lies next.here in
            let g = (read_top-local o next.first).bound b at j.0 p k j.1 in (
              omega (arith, y.past, j.2),
              omega (arith, y.within, j.2),
              g.0,
              g.1,
              record {
                tys = next.others;
                stands = subst (λ (m : ℕ). TypesAt next.others s m) j.2 next.rest;
                same = λ ts z. same_next ts z ∙ more next.first next.others at j.0 p j.1;
              },
            )

        pub left-stop : (x : Refusal) → q ≡ Err x → (ts : List Ty) → parse s ≡ types ts → Err x ≡ reached_of (body_r o ts b off)
        left-stop x e ts z =
            sym (same_next ts z ∙ none next.first next.others at x (stopped-inv next.middle x (read_top o next.first b at) (sym answered ∙ e)))

    module _ (l : length s ≤ i) (ts : List Ty) (z : parse s ≡ types ts) where
      last : reached_of (body_r o ts b off) ≡ reached_of (ended b at)
      unfolding body_r values_r ret
      last =
          h.same ts z ∙ ap (λ (us : List Ty). reached_of (body_r o us b at)) (types-none h.tys s i h.stands l)
          ∙ ap reached_of (bind-got (ret tt) (close []) b at tt at refl) ∙ kept ended (λ u. tt) b at

      pub left_over : (x : Refusal) → at < length b → x ≡ refusal BodyLeft at → Err x ≡ reached_of (body_r o ts b off)
      unfolding ended
      left_over x k e =
          let z : ended b at ≡ stop BodyLeft at = rw (leb-false (length b) at k, ended) in
          rw e (sym (last ∙ ap reached_of z))

      pub left-none : length b ≤ at → Ok (record { 0 = at }) ≡ reached_of (body_r o ts b off)
      left-none k = sym (last ∙ ap reached_of (ended-yes b at k))
