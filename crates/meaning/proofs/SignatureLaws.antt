-- The parse accepts exactly the spellings of legal types.
use Prim.Native.Nat.{ℕ, ◌≤◌}
use native.Mathlib.Omega.{arith}
use mathlib.Core.Bool.{Bool, true, false, ◌&&◌}
use mathlib.Core.List.{List, [], ◌∷◌, ◌++◌, append_assoc, append-nil}
use mathlib.Core.Path.{◌≡◌, refl, ap, sym, subst, ◌∙◌}
use mathlib.Core.Logic.{◌⊎◌, inl, inr}
use lib.ListN.{length}
use lib.Dec.{leb, ltb, eqb, T, eqb→eq, leb→le, le→leb}
use Rattle.meaning.proofs.Bases.{for-fix, for-base}
use Rattle.meaning.specs.Text.{lead, scan, utf8}
use Rattle.meaning.specs.Types.{Base, fix, str, Form, in_array, loose, Ty, base, arr, dict, struct, variant, Tys, one, more}
use Rattle.meaning.specs.Signature.{code, opening, spell, spells, spell_all, nest, is_key, not_loose, shape, shapes, legal, Tok, is_base, is_arr, is_var, is_open, is_close, is_curl, is_uncurl, is_bad, code_tok, toks, find, snoc, Stack, floor, open0, open1, in_arr, need_key, need_val, need_end, Step, to, bad, put, keyed, put_base, begin, curl, close, uncurl, step, run, Parsed, types, refused, all_legal, all_nest, finish, parse}
use Rattle.meaning.specs.declared.Fault.TheVariants.{InvalidSignature, EmptyStruct, SignatureTooLong, NestingTooDeep}
use Rattle.meaning.specs.declared.Fault.{Fault}
use Rattle.meaning.proofs.Booleans.{and_left, and_right, and_both}

-- what has been read, from what is open
unfoldable pub spell_stack : Stack → List ℕ
spell_stack (floor ts) = spell_all ts
spell_stack (open0 k) = spell_stack k ++ 40 ∷ []
spell_stack (open1 fs k) = spell_stack k ++ (40 ∷ spells fs)
spell_stack (in_arr k) = spell_stack k ++ 97 ∷ []
spell_stack (need_key f k) = spell_stack k ++ opening f
spell_stack (need_val f c k) = spell_stack k ++ (opening f ++ code c ∷ [])
spell_stack (need_end f c e k) = spell_stack k ++ (opening f ++ code c ∷ spell e)

pub spell_all-append : (ts us : List Ty) → spell_all (ts ++ us) ≡ spell_all ts ++ spell_all us
unfolding spell_all
spell_all-append [] us = refl
spell_all-append (e ∷ es) us = ap (λ (z : List ℕ). spell e ++ z) (spell_all-append es us) ∙ sym (append_assoc (spell e) (spell_all es) (spell_all us))

spells-snoc : (fs : Tys) (t : Ty) → spells (snoc fs t) ≡ spells fs ++ spell t
unfolding spell snoc
spells-snoc (one e) t = refl
spells-snoc (more e fs) t = ap (λ (z : List ℕ). spell e ++ z) (spells-snoc fs t) ∙ sym (append_assoc (spell e) (spells fs) (spell t))

not-bad : {X : Type 0} (n : Fault) (j : Stack) → bad n ≡ to j → X
not-bad n j h = absurd (let z : ◌≡◌ {A = ℕ} 0 1 = cc in omega arith)

put-spell : (k : Stack) (t : Ty) (j : Stack) → put k t ≡ to j → spell_stack j ≡ spell_stack k ++ spell t
unfolding put spell_stack spell_all spell
put-spell (floor ts) t j h =
    let z : floor (ts ++ t ∷ []) ≡ j = cc in
    subst (λ (i : Stack). spell_stack i ≡ spell_all ts ++ spell t) z (spell_all-append ts (t ∷ []) ∙ ap (λ (x : List ℕ). spell_all ts ++ x) (append-nil (spell t)))
put-spell (open0 k) t j h =
    let z : open1 (one t) k ≡ j = cc in
    subst (λ (i : Stack). spell_stack i ≡ (spell_stack k ++ 40 ∷ []) ++ spell t) z (sym (append_assoc (spell_stack k) (40 ∷ []) (spell t)))
put-spell (open1 fs k) t j h =
    let z : open1 (snoc fs t) k ≡ j = cc in
    subst (λ (i : Stack). spell_stack i ≡ (spell_stack k ++ (40 ∷ spells fs)) ++ spell t) z
    (ap (λ (x : List ℕ). spell_stack k ++ (40 ∷ x)) (spells-snoc fs t) ∙ sym (append_assoc (spell_stack k) (40 ∷ spells fs) (spell t)))
put-spell (in_arr k) t j h = put-spell k (arr t) j h ∙ sym (append_assoc (spell_stack k) (97 ∷ []) (spell t))
put-spell (need_key f k) t j h = not-bad InvalidSignature j h
put-spell (need_val f c k) t j h =
    let z : need_end f c t k ≡ j = cc in
    subst (λ (i : Stack). spell_stack i ≡ (spell_stack k ++ (opening f ++ code c ∷ [])) ++ spell t) z
    (sym (append_assoc (spell_stack k) (opening f ++ code c ∷ []) (spell t) ∙ ap (λ (x : List ℕ). spell_stack k ++ x) (append_assoc (opening f) (code c ∷ []) (spell t))))
put-spell (need_end f c e k) t j h = not-bad InvalidSignature j h

keyed-spell : (a : Bool) (f : Form) (c : Base) (k j : Stack) → keyed a (need_val f c k) ≡ to j → spell_stack j ≡ spell_stack (need_key f k) ++ code c ∷ []
unfolding spell_stack
keyed-spell true f c k j h = let z : need_val f c k ≡ j = cc in rw (← z) (sym (append_assoc (spell_stack k) (opening f) (code c ∷ [])))
keyed-spell false f c k j h = not-bad InvalidSignature j h

base-spell : (k : Stack) (c : Base) (j : Stack) → put_base k c ≡ to j → spell_stack j ≡ spell_stack k ++ code c ∷ []
unfolding put_base spell
base-spell (floor ts) c j h = put-spell (floor ts) (base c) j h
base-spell (open0 k) c j h = put-spell (open0 k) (base c) j h
base-spell (open1 ts k) c j h = put-spell (open1 ts k) (base c) j h
base-spell (in_arr k) c j h = put-spell (in_arr k) (base c) j h
base-spell (need_key f k) c j h = keyed-spell (is_key c) f c k j h
base-spell (need_val f d k) c j h = put-spell (need_val f d k) (base c) j h
base-spell (need_end f d e k) c j h = not-bad InvalidSignature j h

begin-spell : (k n : Stack) (j : Stack) (x : List ℕ) → spell_stack n ≡ spell_stack k ++ x → begin k n ≡ to j → spell_stack j ≡ spell_stack k ++ x
begin-spell (floor ts) n j x q h = let z : n ≡ j = cc in rw z at q
begin-spell (open0 k) n j x q h = let z : n ≡ j = cc in rw z at q
begin-spell (open1 ts k) n j x q h = let z : n ≡ j = cc in rw z at q
begin-spell (in_arr k) n j x q h = let z : n ≡ j = cc in rw z at q
begin-spell (need_key f k) n j x q h = not-bad InvalidSignature j h
begin-spell (need_val f c k) n j x q h = let z : n ≡ j = cc in rw z at q
begin-spell (need_end f c e k) n j x q h = not-bad InvalidSignature j h

curl-spell : (k j : Stack) → curl k ≡ to j → spell_stack j ≡ spell_stack k ++ 123 ∷ []
unfolding spell_stack
curl-spell (floor ts) j h = let z : need_key loose (floor ts) ≡ j = cc in rw (← z)
curl-spell (open0 k) j h = let z : need_key loose (open0 k) ≡ j = cc in rw (← z)
curl-spell (open1 ts k) j h = let z : need_key loose (open1 ts k) ≡ j = cc in rw (← z)
curl-spell (in_arr k) j h = let z : need_key in_array k ≡ j = cc in rw (← z) (sym (append_assoc (spell_stack k) (97 ∷ []) (123 ∷ [])))
curl-spell (need_key f k) j h = not-bad InvalidSignature j h
curl-spell (need_val f c k) j h = let z : need_key loose (need_val f c k) ≡ j = cc in rw (← z)
curl-spell (need_end f c e k) j h = not-bad InvalidSignature j h

close-spell : (k j : Stack) → close k ≡ to j → spell_stack j ≡ spell_stack k ++ 41 ∷ []
unfolding spell_stack spell
close-spell (floor ts) j h = not-bad InvalidSignature j h
close-spell (open0 k) j h = not-bad EmptyStruct j h
close-spell (open1 ts k) j h = put-spell k (struct ts) j h ∙ sym (append_assoc (spell_stack k) (40 ∷ spells ts) (41 ∷ []))
close-spell (in_arr k) j h = not-bad InvalidSignature j h
close-spell (need_key f k) j h = not-bad InvalidSignature j h
close-spell (need_val f c k) j h = not-bad InvalidSignature j h
close-spell (need_end f c e k) j h = not-bad InvalidSignature j h

uncurl-spell : (k j : Stack) → uncurl k ≡ to j → spell_stack j ≡ spell_stack k ++ 125 ∷ []
unfolding spell_stack spell
uncurl-spell (floor ts) j h = not-bad InvalidSignature j h
uncurl-spell (open0 k) j h = not-bad InvalidSignature j h
uncurl-spell (open1 ts k) j h = not-bad InvalidSignature j h
uncurl-spell (in_arr k) j h = not-bad InvalidSignature j h
uncurl-spell (need_key f k) j h = not-bad InvalidSignature j h
uncurl-spell (need_val f c k) j h = not-bad InvalidSignature j h
uncurl-spell (need_end f c e k) j h = put-spell k (dict f c e) j h ∙ simp append_assoc

step-spell : (q : Tok) (k j : Stack) → step q k ≡ to j → spell_stack j ≡ spell_stack k ++ code_tok q ∷ []
unfolding step spell_stack spell
step-spell (is_base c) k j h = base-spell k c j h
step-spell is_arr k j h = begin-spell k (in_arr k) j (97 ∷ []) refl h
step-spell is_var k j h = put-spell k variant j h
step-spell is_open k j h = begin-spell k (open0 k) j (40 ∷ []) refl h
step-spell is_close k j h = close-spell k j h
step-spell is_curl k j h = curl-spell k j h
step-spell is_uncurl k j h = uncurl-spell k j h
step-spell is_bad k j h = not-bad InvalidSignature j h

find-code : (ks : List Tok) (c : ℕ) → (find ks c ≡ is_bad) ⊎ (code_tok (find ks c) ≡ c)
unfolding find
find-code [] c = inl refl
find-code (k ∷ ks) c = go (eqb (code_tok k) c) refl (find-code ks c)
  where
    go : (a : Bool) → eqb (code_tok k) c ≡ a → (find ks c ≡ is_bad) ⊎ (code_tok (find ks c) ≡ c) → (find (k ∷ ks) c ≡ is_bad) ⊎ (code_tok (find (k ∷ ks) c) ≡ c)
    go true e ih = inr (rw (e, find) (eqb→eq (code_tok k) c (subst T (sym e) tt)))
    go false e ih = rw (e, find) ih

-- one byte of a run
pub next : Step → List ℕ → Step
next (to j) cs = run cs j
next (bad n) cs = bad n

pub run-cons : (c : ℕ) (cs : List ℕ) (k : Stack) → run (c ∷ cs) k ≡ next (step (find toks c) k) cs
unfolding run next
run-cons c cs k = go (step (find toks c) k) refl
  where
    go : (x : Step) → step (find toks c) k ≡ x → run (c ∷ cs) k ≡ next (step (find toks c) k) cs
    go (to j) e = rw (e, run, next)
    go (bad n) e = rw (e, run, next)

run-nil : (k : Stack) → run [] k ≡ to k
unfolding run
run-nil k = refl

step-bad : (k : Stack) → step is_bad k ≡ bad InvalidSignature
unfolding step
step-bad k = refl

run-spell : (s : List ℕ) (k j : Stack) → run s k ≡ to j → spell_stack j ≡ spell_stack k ++ s
unfolding next
run-spell [] k j h = let z : k ≡ j = cc (run-nil k) in rw z (sym (append-nil (spell_stack j)))
run-spell (c ∷ cs) k j h = go (step (find toks c) k) refl (λ i q. run-spell cs i j q) (find-code toks c)
  where
    go : (x : Step) → step (find toks c) k ≡ x → ((i : Stack) → run cs i ≡ to j → spell_stack j ≡ spell_stack i ++ cs)
        → (find toks c ≡ is_bad) ⊎ (code_tok (find toks c) ≡ c) → spell_stack j ≡ spell_stack k ++ c ∷ cs
    go (to i) e ih (inl b) = not-bad InvalidSignature i (sym (step-bad k) ∙ ap (λ (q : Tok). step q k) (sym b) ∙ e)
    go (to i) e ih (inr b) =
        let r : run cs i ≡ to j = ap (λ (x : Step). next x cs) (sym e) ∙ sym (run-cons c cs k) ∙ h in
        let s : spell_stack i ≡ spell_stack k ++ c ∷ [] = rw b at (step-spell (find toks c) k i e) in
        ih i r ∙ ap (λ (x : List ℕ). x ++ cs) s ∙ append_assoc (spell_stack k) (c ∷ []) cs
    go (bad n) e ih b = not-bad n j (ap (λ (x : Step). next x cs) (sym e) ∙ sym (run-cons c cs k) ∙ h)

-- what the pass builds has the shape that a type must have
all_shape : List Ty → Bool
all_shape [] = true
all_shape (e ∷ es) = shape e && all_shape es

all_shape-snoc : (ts : List Ty) (t : Ty) → T (all_shape ts) → T (shape t) → T (all_shape (ts ++ t ∷ []))
unfolding all_shape
all_shape-snoc [] t h k = and_both (shape t) true k tt
all_shape-snoc (e ∷ es) t h k = and_both (shape e) (all_shape (es ++ t ∷ [])) (and_left (shape e) (all_shape es) h) (all_shape-snoc es t (and_right (shape e) (all_shape es) h) k)

shapes-snoc : (fs : Tys) (t : Ty) → T (shapes fs) → T (shape t) → T (shapes (snoc fs t))
unfolding shape snoc
shapes-snoc (one e) t h k = and_both (shape e) (shape t) h k
shapes-snoc (more e fs) t h k = and_both (shape e) (shapes (snoc fs t)) (and_left (shape e) (shapes fs) h) (shapes-snoc fs t (and_right (shape e) (shapes fs) h) k)

-- a loose dict never stands in an array
abbrev fits_in : Stack → Ty → Type 0
fits_in (floor ts) t = Unit {0}
fits_in (open0 k) t = Unit {0}
fits_in (open1 fs k) t = Unit {0}
fits_in (in_arr k) t = T (not_loose t)
fits_in (need_key f k) t = Unit {0}
fits_in (need_val f c k) t = Unit {0}
fits_in (need_end f c e k) t = Unit {0}

fits-firm : (k : Stack) (t : Ty) → T (not_loose t) → fits_in k t
fits-firm (floor ts) t h = tt
fits-firm (open0 k) t h = tt
fits-firm (open1 fs k) t h = tt
fits-firm (in_arr k) t h = h
fits-firm (need_key f k) t h = tt
fits-firm (need_val f c k) t h = tt
fits-firm (need_end f c e k) t h = tt

-- a dict of this form may stand there
abbrev form_fits : Form → Stack → Type 0
form_fits in_array k = Unit {0}
form_fits loose k = fits_in k (dict loose str variant)

form-fits : (f : Form) (k : Stack) (c : Base) (e : Ty) → form_fits f k → fits_in k (dict f c e)
form-fits in_array k c e h = fits-firm k (dict in_array c e) tt
form-fits loose (floor ts) c e h = tt
form-fits loose (open0 k) c e h = tt
form-fits loose (open1 fs k) c e h = tt
form-fits loose (in_arr k) c e h = h
form-fits loose (need_key f k) c e h = tt
form-fits loose (need_val f d k) c e h = tt
form-fits loose (need_end f d d' k) c e h = tt

unfoldable ok_stack : Stack → Type 0
ok_stack (floor ts) = T (all_shape ts)
ok_stack (open0 k) = ok_stack k
ok_stack (open1 fs k) = T (shapes fs) × ok_stack k
ok_stack (in_arr k) = ok_stack k
ok_stack (need_key f k) = form_fits f k × ok_stack k
ok_stack (need_val f c k) = form_fits f k × T (is_key c) × ok_stack k
ok_stack (need_end f c e k) = form_fits f k × T (is_key c) × T (shape e) × ok_stack k

put-ok : (k : Stack) (t : Ty) (j : Stack) → ok_stack k → T (shape t) → fits_in k t → put k t ≡ to j → ok_stack j
unfolding put ok_stack shape
put-ok (floor ts) t j o s f h = let z : floor (ts ++ t ∷ []) ≡ j = cc in subst ok_stack z (all_shape-snoc ts t o s)
put-ok (open0 k) t j o s f h = let z : open1 (one t) k ≡ j = cc in subst ok_stack z (s, o)
put-ok (open1 fs k) t j o s f h = let z : open1 (snoc fs t) k ≡ j = cc in subst ok_stack z (shapes-snoc fs t o.0 s, o.1)
put-ok (in_arr k) t j o s f h = put-ok k (arr t) j o (and_both (not_loose t) (shape t) f s) (fits-firm k (arr t) tt) h
put-ok (need_key g k) t j o s f h = not-bad InvalidSignature j h
put-ok (need_val g c k) t j o s f h = let z : need_end g c t k ≡ j = cc in subst ok_stack z (o.0, o.1, s, o.2)
put-ok (need_end g c e k) t j o s f h = not-bad InvalidSignature j h

keyed-ok : (a : Bool) (f : Form) (c : Base) (k j : Stack) → is_key c ≡ a → form_fits f k × ok_stack k → keyed a (need_val f c k) ≡ to j → ok_stack j
unfolding ok_stack
keyed-ok true f c k j e o h = let z : need_val f c k ≡ j = cc in subst ok_stack z (o.0, subst T (sym e) tt, o.1)
keyed-ok false f c k j e o h = not-bad InvalidSignature j h

base_ok : (k : Stack) (c : Base) (j : Stack) → ok_stack k → put_base k c ≡ to j → ok_stack j
unfolding put_base ok_stack shape
base_ok (floor ts) c j o h = put-ok (floor ts) (base c) j o tt tt h
base_ok (open0 k) c j o h = put-ok (open0 k) (base c) j o tt tt h
base_ok (open1 ts k) c j o h = put-ok (open1 ts k) (base c) j o tt tt h
base_ok (in_arr k) c j o h = put-ok (in_arr k) (base c) j o tt tt h
base_ok (need_key f k) c j o h = keyed-ok (is_key c) f c k j refl o h
base_ok (need_val f d k) c j o h = put-ok (need_val f d k) (base c) j o tt tt h
base_ok (need_end f d e k) c j o h = not-bad InvalidSignature j h

begin-ok : (k n j : Stack) → ok_stack n → begin k n ≡ to j → ok_stack j
begin-ok (floor ts) n j o h = let z : n ≡ j = cc in subst ok_stack z o
begin-ok (open0 k) n j o h = let z : n ≡ j = cc in subst ok_stack z o
begin-ok (open1 ts k) n j o h = let z : n ≡ j = cc in subst ok_stack z o
begin-ok (in_arr k) n j o h = let z : n ≡ j = cc in subst ok_stack z o
begin-ok (need_key f k) n j o h = not-bad InvalidSignature j h
begin-ok (need_val f c k) n j o h = let z : n ≡ j = cc in subst ok_stack z o
begin-ok (need_end f c e k) n j o h = not-bad InvalidSignature j h

curl-ok : (k j : Stack) → ok_stack k → curl k ≡ to j → ok_stack j
unfolding ok_stack
curl-ok (floor ts) j o h = let z : need_key loose (floor ts) ≡ j = cc in subst ok_stack z (tt, o)
curl-ok (open0 k) j o h = let z : need_key loose (open0 k) ≡ j = cc in subst ok_stack z (tt, o)
curl-ok (open1 ts k) j o h = let z : need_key loose (open1 ts k) ≡ j = cc in subst ok_stack z (tt, o)
curl-ok (in_arr k) j o h = let z : need_key in_array k ≡ j = cc in subst ok_stack z (tt, o)
curl-ok (need_key f k) j o h = not-bad InvalidSignature j h
curl-ok (need_val f c k) j o h = let z : need_key loose (need_val f c k) ≡ j = cc in subst ok_stack z (tt, o)
curl-ok (need_end f c e k) j o h = not-bad InvalidSignature j h

close-ok : (k j : Stack) → ok_stack k → close k ≡ to j → ok_stack j
unfolding ok_stack shape
close-ok (floor ts) j o h = not-bad InvalidSignature j h
close-ok (open0 k) j o h = not-bad EmptyStruct j h
close-ok (open1 ts k) j o h = put-ok k (struct ts) j o.1 o.0 (fits-firm k (struct ts) tt) h
close-ok (in_arr k) j o h = not-bad InvalidSignature j h
close-ok (need_key f k) j o h = not-bad InvalidSignature j h
close-ok (need_val f c k) j o h = not-bad InvalidSignature j h
close-ok (need_end f c e k) j o h = not-bad InvalidSignature j h

uncurl-ok : (k j : Stack) → ok_stack k → uncurl k ≡ to j → ok_stack j
unfolding ok_stack shape
uncurl-ok (floor ts) j o h = not-bad InvalidSignature j h
uncurl-ok (open0 k) j o h = not-bad InvalidSignature j h
uncurl-ok (open1 ts k) j o h = not-bad InvalidSignature j h
uncurl-ok (in_arr k) j o h = not-bad InvalidSignature j h
uncurl-ok (need_key f k) j o h = not-bad InvalidSignature j h
uncurl-ok (need_val f c k) j o h = not-bad InvalidSignature j h
uncurl-ok (need_end f c e k) j o h = put-ok k (dict f c e) j o.3 (and_both (is_key c) (shape e) o.1 o.2) (form-fits f k c e o.0) h

step_ok : (q : Tok) (k j : Stack) → ok_stack k → step q k ≡ to j → ok_stack j
unfolding step ok_stack shape
step_ok (is_base c) k j o h = base_ok k c j o h
step_ok is_arr k j o h = begin-ok k (in_arr k) j o h
step_ok is_var k j o h = put-ok k variant j o tt (fits-firm k variant tt) h
step_ok is_open k j o h = begin-ok k (open0 k) j o h
step_ok is_close k j o h = close-ok k j o h
step_ok is_curl k j o h = curl-ok k j o h
step_ok is_uncurl k j o h = uncurl-ok k j o h
step_ok is_bad k j o h = not-bad InvalidSignature j h

run_ok : (s : List ℕ) (k j : Stack) → ok_stack k → run s k ≡ to j → ok_stack j
unfolding next
run_ok [] k j o h = let z : k ≡ j = cc (run-nil k) in subst ok_stack z o
run_ok (c ∷ cs) k j o h = go (step (find toks c) k) refl (λ i p q. run_ok cs i j p q)
  where
    go : (x : Step) → step (find toks c) k ≡ x → ((i : Stack) → ok_stack i → run cs i ≡ to j → ok_stack j) → ok_stack j
    go (to i) e ih = ih i (step_ok (find toks c) k i o e) (ap (λ (x : Step). next x cs) (sym e) ∙ sym (run-cons c cs k) ∙ h)
    go (bad n) e ih = not-bad n j (ap (λ (x : Step). next x cs) (sym e) ∙ sym (run-cons c cs k) ∙ h)

legal-of : (ts : List Ty) → T (all_shape ts) → T (all_nest ts) → T (all_legal ts)
unfolding all_shape all_nest all_legal legal
legal-of [] h k = tt
legal-of (e ∷ es) h k = and_both (legal e) (all_legal es) (and_both (shape e) (nest e 0 0) (and_left (shape e) (all_shape es) h) (and_left (nest e 0 0) (all_nest es) k))
    (legal-of es (and_right (shape e) (all_shape es) h) (and_right (nest e 0 0) (all_nest es) k))

nest-of : (ts : List Ty) → T (all_legal ts) → T (all_nest ts)
unfolding all_nest all_legal legal
nest-of [] h = tt
nest-of (e ∷ es) h = and_both (nest e 0 0) (all_nest es) (and_right (shape e) (nest e 0 0) (and_left (legal e) (all_legal es) h)) (nest-of es (and_right (legal e) (all_legal es) h))

not-refused : {X : Type 0} (n : Fault) (ts : List Ty) → refused n ≡ types ts → X
not-refused n ts h = absurd (let z : ◌≡◌ {A = ℕ} 0 1 = cc in omega arith)

abbrev legal_or_deep : Bool → List Ty → Parsed
legal_or_deep true ts = types ts
legal_or_deep false ts = refused NestingTooDeep

finish-floor : (us : List Ty) → finish (to (floor us)) ≡ legal_or_deep (all_nest us) us
finish-floor us = go (all_nest us) refl
  where
    go : (a : Bool) → all_nest us ≡ a → finish (to (floor us)) ≡ legal_or_deep (all_nest us) us
    go true e = rw (e, finish)
    go false e = rw (e, finish)

legal_or_deep-inv : (a : Bool) (us ts : List Ty) → legal_or_deep a us ≡ types ts → T a × (us ≡ ts)
legal_or_deep-inv true us ts h = (tt, cc)
legal_or_deep-inv false us ts h = not-refused NestingTooDeep ts h

finish-inv : (x : Step) (ts : List Ty) → finish x ≡ types ts → (x ≡ to (floor ts)) × T (all_nest ts)
finish-inv (to (floor us)) ts h =
    let i = legal_or_deep-inv (all_nest us) us ts (sym (finish-floor us) ∙ h) in
    (ap (λ (z : List Ty). to (floor z)) i.1, subst (λ (z : List Ty). T (all_nest z)) i.1 i.0)
finish-inv (to (open0 k)) ts h = not-refused InvalidSignature ts h
finish-inv (to (open1 fs k)) ts h = not-refused InvalidSignature ts h
finish-inv (to (in_arr k)) ts h = not-refused InvalidSignature ts h
finish-inv (to (need_key f k)) ts h = not-refused InvalidSignature ts h
finish-inv (to (need_val f c k)) ts h = not-refused InvalidSignature ts h
finish-inv (to (need_end f c e k)) ts h = not-refused InvalidSignature ts h
finish-inv (bad n) ts h = not-refused n ts h

pub parse-sound : (s : List ℕ) (ts : List Ty) → parse s ≡ types ts → T (all_legal ts) × (s ≡ spell_all ts) × (length s ≤ 255)
unfolding parse spell_stack spell_all ok_stack all_shape
parse-sound s ts h = go (leb (length s) 255) refl
  where
    go : (a : Bool) → leb (length s) 255 ≡ a → T (all_legal ts) × (s ≡ spell_all ts) × (length s ≤ 255)
    go true e =
        let i = finish-inv (run s (floor [])) ts (rw (e, parse) at h) in
        (legal-of ts (run_ok s (floor []) (floor ts) tt i.0) i.1, sym (run-spell s (floor []) (floor ts) i.0), leb→le (length s) 255 (subst T (sym e) tt))
    go false e = not-refused SignatureTooLong ts (rw (e, parse) at h)

-- the other way: a spelled type is read as itself wherever one may stand
abbrev stands : Stack → Ty → Type 0
stands (floor ts) t = Unit {0}
stands (open0 k) t = Unit {0}
stands (open1 fs k) t = Unit {0}
stands (in_arr k) t = T (not_loose t)
stands (need_key f k) t = ⊥
stands (need_val f c k) t = Unit {0}
stands (need_end f c e k) t = ⊥

pub find-base : (c : Base) → find toks (code c) ≡ is_base c
unfolding find
find-base = for-base (λ c. find toks (code c) ≡ is_base c)
    (for-fix (λ c. find toks (code (fix c)) ≡ is_base (fix c)) refl refl refl refl refl refl refl refl refl refl) refl refl refl

base-stands : (k : Stack) (c : Base) → stands k (base c) → put_base k c ≡ put k (base c)
unfolding put_base
base-stands (floor ts) c h = refl
base-stands (open0 k) c h = refl
base-stands (open1 fs k) c h = refl
base-stands (in_arr k) c h = refl
base-stands (need_key f k) c h = absurd h
base-stands (need_val f d k) c h = refl
base-stands (need_end f d e k) c h = absurd h

begin-stands : (k n : Stack) (t : Ty) → stands k t → begin k n ≡ to n
begin-stands (floor ts) n t h = refl
begin-stands (open0 k) n t h = refl
begin-stands (open1 fs k) n t h = refl
begin-stands (in_arr k) n t h = refl
begin-stands (need_key f k) n t h = absurd h
begin-stands (need_val f d k) n t h = refl
begin-stands (need_end f d e k) n t h = absurd h

curl-stands : (k : Stack) (c : Base) (e : Ty) → stands k (dict loose c e) → curl k ≡ to (need_key loose k)
curl-stands (floor ts) c e h = refl
curl-stands (open0 k) c e h = refl
curl-stands (open1 fs k) c e h = refl
curl-stands (in_arr k) c e h = absurd h
curl-stands (need_key f k) c e h = absurd h
curl-stands (need_val f d k) c e h = refl
curl-stands (need_end f d d' k) c e h = absurd h

run-to : (c : ℕ) (cs : List ℕ) (k : Stack) (q : Tok) (x : Step) → find toks c ≡ q → step q k ≡ x → run (c ∷ cs) k ≡ next x cs
run-to c cs k q x h g = run-cons c cs k ∙ ap (λ (z : Tok). next (step z k) cs) h ∙ ap (λ (z : Step). next z cs) g

keyed-true : (a : Bool) (k : Stack) → T a → keyed a k ≡ to k
keyed-true true k h = refl
keyed-true false k h = absurd h

unfoldable pub join_tys : Tys → Tys → Tys
join_tys gs (one e) = snoc gs e
join_tys gs (more e fs) = join_tys (snoc gs e) fs

join_more : (e : Ty) (gs fs : Tys) → join_tys (more e gs) fs ≡ more e (join_tys gs fs)
unfolding join_tys snoc
join_more e gs (one d) = refl
join_more e gs (more d fs) = join_more e (snoc gs d) fs

join_one : (e : Ty) (fs : Tys) → join_tys (one e) fs ≡ more e fs
unfolding join_tys snoc
join_one e (one d) = refl
join_one e (more d fs) = join_more e (one d) fs ∙ ap (more e) (join_one d fs)

mutual
  unfolding spell shape put join_tys next step put_base find

  run-type : (t : Ty) (k : Stack) (rest : List ℕ) → T (shape t) → stands k t → run (spell t ++ rest) k ≡ next (put k t) rest
  run-type (base c) k rest h s = run-to (code c) rest k (is_base c) (put k (base c)) (find-base c) (base-stands k c s)
  run-type (arr e) k rest h s =
      run-to 97 (spell e ++ rest) k is_arr (to (in_arr k)) refl (begin-stands k (in_arr k) (arr e) s)
      ∙ run-type e (in_arr k) rest (and_right (not_loose e) (shape e) h) (and_left (not_loose e) (shape e) h)
  run-type (dict in_array c e) k rest h s =
      run-to 97 _ k is_arr (to (in_arr k)) refl (begin-stands k (in_arr k) (dict in_array c e) s)
      ∙ run-to 123 _ (in_arr k) is_curl (to (need_key in_array k)) refl refl
      ∙ run-to (code c) _ (need_key in_array k) (is_base c) (to (need_val in_array c k)) (find-base c) (keyed-true (is_key c) (need_val in_array c k) (and_left (is_key c) (shape e) h))
      ∙ ap (λ (z : List ℕ). run z (need_val in_array c k)) (append_assoc (spell e) (125 ∷ []) rest)
      ∙ run-type e (need_val in_array c k) (125 ∷ rest) (and_right (is_key c) (shape e) h) tt
      ∙ run-to 125 rest (need_end in_array c e k) is_uncurl (put k (dict in_array c e)) refl refl
  run-type (dict loose c e) k rest h s =
      run-to 123 _ k is_curl (to (need_key loose k)) refl (curl-stands k c e s)
      ∙ run-to (code c) _ (need_key loose k) (is_base c) (to (need_val loose c k)) (find-base c) (keyed-true (is_key c) (need_val loose c k) (and_left (is_key c) (shape e) h))
      ∙ ap (λ (z : List ℕ). run z (need_val loose c k)) (append_assoc (spell e) (125 ∷ []) rest)
      ∙ run-type e (need_val loose c k) (125 ∷ rest) (and_right (is_key c) (shape e) h) tt
      ∙ run-to 125 rest (need_end loose c e k) is_uncurl (put k (dict loose c e)) refl refl
  run-type (struct fs) k rest h s =
      run-to 40 _ k is_open (to (open0 k)) refl (begin-stands k (open0 k) (struct fs) s)
      ∙ ap (λ (z : List ℕ). run z (open0 k)) (append_assoc (spells fs) (41 ∷ []) rest)
      ∙ run-first fs k (41 ∷ rest) h
      ∙ run-to 41 rest (open1 fs k) is_close (put k (struct fs)) refl refl
  run-type variant k rest h s = run-to 118 rest k is_var (put k variant) refl refl

  run-first : (fs : Tys) (k : Stack) (rest : List ℕ) → T (shapes fs) → run (spells fs ++ rest) (open0 k) ≡ run rest (open1 fs k)
  run-first (one e) k rest h = run-type e (open0 k) rest h tt
  run-first (more e fs) k rest h =
      ap (λ (z : List ℕ). run z (open0 k)) (append_assoc (spell e) (spells fs) rest)
      ∙ run-type e (open0 k) (spells fs ++ rest) (and_left (shape e) (shapes fs) h) tt
      ∙ run-rest fs (one e) k rest (and_right (shape e) (shapes fs) h)
      ∙ ap (λ (z : Tys). run rest (open1 z k)) (join_one e fs)

  run-rest : (fs gs : Tys) (k : Stack) (rest : List ℕ) → T (shapes fs) → run (spells fs ++ rest) (open1 gs k) ≡ run rest (open1 (join_tys gs fs) k)
  run-rest (one e) gs k rest h = run-type e (open1 gs k) rest h tt
  run-rest (more e fs) gs k rest h =
      ap (λ (z : List ℕ). run z (open1 gs k)) (append_assoc (spell e) (spells fs) rest)
      ∙ run-type e (open1 gs k) (spells fs ++ rest) (and_left (shape e) (shapes fs) h) tt
      ∙ run-rest fs (snoc gs e) k rest (and_right (shape e) (shapes fs) h)

run-all : (ts us : List Ty) → T (all_legal ts) → run (spell_all ts) (floor us) ≡ to (floor (us ++ ts))
unfolding spell_all all_legal legal next put run
run-all [] us h = ap (λ (z : List Ty). to (floor z)) (sym (append-nil us))
run-all (e ∷ es) us h =
    run-type e (floor us) (spell_all es) (and_left (shape e) (nest e 0 0) (and_left (legal e) (all_legal es) h)) tt
    ∙ run-all es (us ++ e ∷ []) (and_right (legal e) (all_legal es) h)
    ∙ ap (λ (z : List Ty). to (floor z)) (append_assoc us (e ∷ []) es)

T_true : (a : Bool) → T a → a ≡ true
T_true true h = refl
T_true false h = absurd h

pub parse-complete : (ts : List Ty) → T (all_legal ts) → length (spell_all ts) ≤ 255 → parse (spell_all ts) ≡ types ts
unfolding parse
parse-complete ts h l =
    let e : leb (length (spell_all ts)) 255 ≡ true = T_true _ (le→leb (length (spell_all ts)) 255 l) in
    let f : finish (run (spell_all ts) (floor [])) ≡ types ts = ap finish (run-all ts [] h) ∙ finish-floor ts ∙ ap (λ (a : Bool). legal_or_deep a ts) (T_true (all_nest ts) (nest-of ts h)) in
    rw (e, parse) f

-- spelled types are plain ASCII
ascii : List ℕ → Bool
ascii [] = true
ascii (c ∷ cs) = ltb c 128 && ascii cs

ascii_append : (s t : List ℕ) → T (ascii s) → T (ascii t) → T (ascii (s ++ t))
unfolding ascii
ascii_append [] t h k = k
ascii_append (c ∷ cs) t h k = go (ltb c 128) h (λ q. ascii_append cs t q k)
  where
    go : (a : Bool) → T (a && ascii cs) → (T (ascii cs) → T (ascii (cs ++ t))) → T (a && ascii (cs ++ t))
    go true h f = f h
    go false h f = h

code-ascii : (c : Base) → T (ascii (code c ∷ []))
unfolding ascii
code-ascii = for-base (λ c. T (ascii (code c ∷ []))) (for-fix (λ c. T (ascii (code (fix c) ∷ []))) tt tt tt tt tt tt tt tt tt tt) tt tt tt

opening-ascii : (f : Form) → T (ascii (opening f))
unfolding ascii
opening-ascii in_array = tt
opening-ascii loose = tt

mutual
  unfolding spell ascii

  spell-ascii : (t : Ty) → T (ascii (spell t))
  spell-ascii (base c) = code-ascii c
  spell-ascii (arr e) = spell-ascii e
  spell-ascii (dict f k e) =
      let entry : T (ascii (code k ∷ spell e)) = ascii_append (code k ∷ []) (spell e) (code-ascii k) (spell-ascii e) in
      ascii_append (opening f ++ code k ∷ spell e) (125 ∷ []) (ascii_append (opening f) (code k ∷ spell e) (opening-ascii f) entry) tt
  spell-ascii (struct fs) = ascii_append (spells fs) (41 ∷ []) (spells-ascii fs) tt
  spell-ascii variant = tt

  spells-ascii : (fs : Tys) → T (ascii (spells fs))
  spells-ascii (one e) = spell-ascii e
  spells-ascii (more e fs) = ascii_append (spell e) (spells fs) (spell-ascii e) (spells-ascii fs)

all_ascii : (ts : List Ty) → T (ascii (spell_all ts))
unfolding spell_all ascii
all_ascii [] = tt
all_ascii (e ∷ es) = ascii_append (spell e) (spell_all es) (spell-ascii e) (all_ascii es)

scan-ascii : (s : List ℕ) (lo hi : ℕ) → T (ascii s) → T (scan s 0 lo hi)
unfolding ascii scan lead
scan-ascii [] lo hi h = tt
scan-ascii (c ∷ cs) lo hi h =
    let e : ltb c 128 ≡ true = T_true (ltb c 128) (and_left (ltb c 128) (ascii cs) h) in
    rw (e, scan, lead) (scan-ascii cs 0 0 (and_right (ltb c 128) (ascii cs) h))

pub spelled-utf8 : (ts : List Ty) → T (utf8 (spell_all ts))
unfolding utf8
spelled-utf8 ts = scan-ascii (spell_all ts) 0 0 (all_ascii ts)
