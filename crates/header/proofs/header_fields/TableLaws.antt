-- The field table turn by turn: what is left of the fields answers for all of them, with what the arrays hold of those that were read.
use Prim.Native.Nat.{ℕ, zero, suc, ◌+◌, ◌≤◌, ◌<◌}
use native.Mathlib.Omega.{arith}
use native.Mathlib.Numerals.{add-one}
use mathlib.Core.Bool.{Bool, true, false, ◌&&◌}
use mathlib.Core.List.{List, [], ◌∷◌}
use mathlib.Core.Path.{◌≡◌, refl, ap, ap₂, sym, subst, ◌∙◌}
use lib.ListN.{length, get_or, set, replicate}
use lib.Seq.{get_or-set_same, get_or-set_other}
use lib.Dec.{leb, eqb, T, eqb→eq}
use borrow.Author.Tests.{eq-eqb, ne_eqb}
use Rattle.meaning.specs.declared.Order.{Order}
use Rattle.meaning.specs.declared.MessageType.{MessageType}
use Rattle.meaning.specs.declared.MessageType.TheVariants.{Call, Reply, Error, Signal}
use Rattle.meaning.specs.declared.Refusal.{Refusal}
use Rattle.meaning.specs.declared.Entry.{Entry}
use Rattle.meaning.specs.declared.Fields.{Fields}
use Rattle.meaning.specs.declared.Entry.TheVariants.{Absent}
use Rattle.meaning.specs.declared.Fault.TheVariants.{InvalidHeaderFields}
use Rattle.meaning.specs.Faults.{refusal}
use Rattle.meaning.specs.Types.{Base, Var}
use Rattle.meaning.specs.Message.{Wants, nothing, exactly, anything, wants, Field, count, complete, needed, every, known_codes}
use Rattle.meaning.specs.Reader.{Res, got, fault, ret, ◌>>=◌, ◌>>◌, check, many}
use Rattle.meaning.specs.ReadMessage.{field_r}
use Rattle.meaning.specs.Header.{entry_as, end_of, entry, fields_from}
use Rattle.meaning.proofs.NumberLaws.{Bytes}
use Rattle.meaning.proofs.Local.{bind-got, bind-fault, many-end, many-round, Cmp, is_le, is_gt, cmp}
use Rattle.meaning.proofs.Meets.{check_bind, check-stop}
use Rattle.meaning.proofs.MessageLocal.{field_r-local}
use Rattle.meaning.proofs.MessageMeets.{field_rs, ne-field}
use Rattle.meaning.proofs.Rules.{each_from, every-same, fields-same}
use Rattle.std.specs.Prelude.{Option, Some, None, Result, Ok, Err}
use Rattle.header.specs.declared.header_field.FieldEntry.{FieldEntry}
use Rattle.header.specs.declared.header_field.Kept.{Kept}
use Rattle.header.specs.declared.header_fields.Seen.{Seen}
use Rattle.header.specs.HeaderField.{passed_by, kept_as, field_to}
use Rattle.header.specs.HeaderFields.{unseen, by_code, first_of, present, once, fields_r, table_to}
use Rattle.header.proofs.header_field.CodeLaws.{Asks, asks, known-asks, other-asks}

-- one code: seen n times so far, with the entry e, before the fields fs that begin at `at`, of all that begin at `first`
pub record PerCode (o : Order) (c n : ℕ) (e : Entry) (at : ℕ) (fs : List Field) (first : ℕ) (all : List Field) : Type 0 where
  pub counted : n + count c fs ≡ count c all
  pub none : n ≡ 0 → e ≡ Absent
  pub entered : first_of n e (entry o c fs at) ≡ entry o c all first

module _ (o : Order) (c n : ℕ) (e : Entry) (at : ℕ) (f : Field) (fs : List Field) (first : ℕ) (all : List Field) (h : PerCode o c n e at (f ∷ fs) first all) where
  hit : (new : Entry) (p : ℕ) → f.0 ≡ c → new ≡ entry_as (end_of o f at) f.1 → PerCode o c (n + 1) (first_of n e new) p fs first all
  unfolding count entry
  hit new p q r =
      let y : eqb f.0 c ≡ true = eq-eqb f.0 c q in
      let k : count c (f ∷ fs) ≡ suc (count c fs) = rw (y, count) in
      let m : entry o c (f ∷ fs) at ≡ new = rw (y, entry) (sym r) in
      let z : n + 1 ≡ suc n = add-one n in
      record {
        counted = omega (arith, h.counted, k);
        none = λ w. absurd (omega arith);
        entered = ap (λ (i : ℕ). first_of i (first_of n e new) (entry o c fs p)) z ∙ ap (first_of n e) (sym m) ∙ h.entered;
      }

  miss : (p : ℕ) → (f.0 ≡ c → ⊥) → p ≡ end_of o f at → PerCode o c n e p fs first all
  unfolding count entry
  miss p q r =
      let y : eqb f.0 c ≡ false = ne_eqb f.0 c q in
      let k : count c (f ∷ fs) ≡ count c fs = rw (y, count) in
      let m : entry o c (f ∷ fs) at ≡ entry o c fs p = rw (y, entry, r) in
      record {
        counted = omega (arith, h.counted, k);
        none = h.none;
        entered = ap (first_of n e) (sym m) ∙ h.entered;
      }

-- a field that was read, and what is kept of it
pub record Came (o : Order) (b : List ℕ) (at p : ℕ) (q : Option Kept) : Type 0 where
  pub field : Field
  pub reads : field_r o b at ≡ got field p
  pub small : (k : Kept) → q ≡ Some k → k.code < 10
  pub here : (k : Kept) → q ≡ Some k → (field.0 ≡ k.code) × (k.entry ≡ entry_as p field.1)
  pub other : ((k : Kept) → q ≡ Some k → ⊥) → (c : ℕ) → 1 ≤ c → c < 10 → field.0 ≡ c → ⊥

-- a known code asks for a type
not_known : (w : Wants) (c : ℕ) → wants c ≡ w → (d : ℕ) → 1 ≤ d → d < 10 → c ≡ d → ((b : Base) → w ≡ exactly b → ⊥) → ⊥
not_known w c q d l m s other = go (known-asks d l m)
  where
    go : Asks d → ⊥
    go (asks b r e l) = other b (sym q ∙ ap wants s ∙ e)

below : (b : Base) (c : ℕ) → wants c ≡ exactly b → c < 10
below b c q = go (cmp 10 c)
  where
    go : Cmp 10 c → c < 10
    go (is_le t l) = absurd (let z : anything ≡ exactly b = sym (other-asks c l) ∙ q in let y : ◌≡◌ {A = ℕ} 0 1 = cc in omega arith)
    go (is_gt t l) = omega arith

no-some : (q : Option Kept) (k : Kept) → q ≡ None → q ≡ Some k → ⊥
no-some q k h i = let z : None ≡ Some k = sym h ∙ i in let y : ◌≡◌ {A = ℕ} 0 1 = cc in omega arith

-- of a field that was read the code says whether it is kept
module _ (o : Order) (b : List ℕ) (at : ℕ) (g : Field) (e : ℕ) (f : FieldEntry) (reads : field_r o b at ≡ got g e) where
  passes : passed_by e ≡ Ok f → (w : Wants) → wants g.0 ≡ w → ((d : Base) → w ≡ exactly d → ⊥) → Came o b at f.next.0 f.kept
  passes h w q other =
      let u : record { next = record { 0 = e }; kept = None } ≡ f = cc in
      let none : f.kept ≡ None = sym (ap (λ (i : FieldEntry). i.kept) u) in
      record {
        field = g;
        reads = reads ∙ ap (λ (j : ℕ). got g j) (ap (λ (i : FieldEntry). i.next.0) u);
        small = λ k i. absurd (no-some f.kept k none i);
        here = λ k i. absurd (no-some f.kept k none i);
        other = λ i d l m s. not_known w g.0 q d l m s other;
      }

  came-kept : (w : Wants) → wants g.0 ≡ w → kept_as w g.0 e g.1 ≡ Ok f → Came o b at f.next.0 f.kept
  came-kept nothing q h = passes h nothing q (λ d x. let u : ◌≡◌ {A = ℕ} 0 1 = cc in omega arith)
  came-kept anything q h = passes h anything q (λ d x. let u : ◌≡◌ {A = ℕ} 0 1 = cc in omega arith)
  came-kept (exactly d) q h =
      let u : record { next = record { 0 = e }; kept = Some (record { code = g.0; entry = entry_as e g.1 }) } ≡ f = cc in
      let next : e ≡ f.next.0 = ap (λ (i : FieldEntry). i.next.0) u in
      let some : Some (record { code = g.0; entry = entry_as e g.1 }) ≡ f.kept = ap (λ (i : FieldEntry). i.kept) u in
      record {
        field = g;
        reads = reads ∙ ap (λ (j : ℕ). got g j) next;
        small = λ k i. (let y : record { code = g.0; entry = entry_as e g.1 } ≡ k = cc in subst (λ (n : ℕ). n < 10) (ap (λ (x : Kept). x.code) y) (below d g.0 q));
        here = λ k i. (let y : record { code = g.0; entry = entry_as e g.1 } ≡ k = cc in (
          ap (λ (x : Kept). x.code) y,
          sym (ap (λ (x : Kept). x.entry) y) ∙ ap (λ (n : ℕ). entry_as n g.1) next,
        ));
        other = λ i d l m s. absurd (i (record { code = g.0; entry = entry_as e g.1 }) (sym some));
      }

pub came : (o : Order) (b : List ℕ) (at : ℕ) (q : Result FieldEntry Refusal) (f : FieldEntry) → q ≡ field_to (field_r o b at) → q ≡ Ok f
    → Came o b at f.next.0 f.kept
came o b at q f h l = go (field_r o b at) refl (sym h ∙ l)
  where
    go : (x : Res Field) → field_r o b at ≡ x → field_to x ≡ Ok f → Came o b at f.next.0 f.kept
    go (got g e) r z = came-kept o b at g e f r (wants g.0) refl z
    go (fault x) r z = absurd (let y : ◌≡◌ {A = ℕ} 0 1 = cc in omega arith)

pub stops : (o : Order) (b : List ℕ) (at : ℕ) (q : Result FieldEntry Refusal) (x : Refusal) → q ≡ field_to (field_r o b at) → q ≡ Err x → field_r o b at ≡ fault x
stops o b at q x h l = go (field_r o b at) refl (sym h ∙ l)
  where
    none : (w : Wants) (c e : ℕ) (v : Var 16) → kept_as w c e v ≡ Err x → ⊥
    none nothing c e v z = let y : ◌≡◌ {A = ℕ} 0 1 = cc in omega arith
    none (exactly b) c e v z = let y : ◌≡◌ {A = ℕ} 0 1 = cc in omega arith
    none anything c e v z = let y : ◌≡◌ {A = ℕ} 0 1 = cc in omega arith

    go : (y : Res Field) → field_r o b at ≡ y → field_to y ≡ Err x → field_r o b at ≡ fault x
    go (got f e) r z = absurd (none (wants f.0) f.0 e f.1 z)
    go (fault y) r z = let u : y ≡ x = cc in r ∙ ap (λ (v : Refusal). fault v) u

-- where a field ends
module _ (o : Order) (b : List ℕ) (y : Bytes b) (at p : ℕ) (q : Option Kept) (h : Came o b at p q) (l : at ≤ length b) where
  pub past : p ≡ end_of o h.field at
  past = ((field_rs o).sound b y at h.field p l h.reads).1.end

  pub further : (at < p) × (p ≤ length b)
  further = let n = ne-field o h.field at in (omega (arith, past), ((field_r-local o).bound b at h.field p l h.reads).1)

-- what is held of the codes after one more field with the code k
abbrev pub again : Seen → Entry → Seen
again s new = record { count = s.count + 1; entry = first_of s.count s.entry new }

abbrev pub seen_more : List Seen → Kept → List Seen
seen_more ss k = set ss k.code (again (get_or ss k.code unseen) k.entry)

abbrev pub AtCode : Order → ℕ → List Seen → ℕ → List Field → ℕ → List Field → Type 0
AtCode o c ss at fs first all = PerCode o c (get_or ss c unseen).count (get_or ss c unseen).entry at fs first all

-- the loop at `at`
pub record Run (o : Order) (b : List ℕ) (n first : ℕ) (ss : List Seen) (at : ℕ) : Type 0 where
  pub left : ℕ
  pub enough : length b ≤ at + left
  pub refuses : (x : Refusal) → many left (field_r o) b at ≡ fault x → many n (field_r o) b first ≡ fault x
  pub reads : (fs : List Field) (e : ℕ) → many left (field_r o) b at ≡ got fs e
      → (all : List Field) × (many n (field_r o) b first ≡ got all e) × ((c : ℕ) → 1 ≤ c → c < 10 → AtCode o c ss at fs first all)

module _ (o : Order) (b : List ℕ) (n first : ℕ) where
  pub run-start : (ss : List Seen) → length b ≤ first + n → ((c : ℕ) → get_or ss c unseen ≡ unseen) → Run o b n first ss first
  run-start ss l h = record {
    left = n;
    enough = l;
    refuses = λ x q. q;
    reads = λ fs e q. (fs, q, λ c i j. subst (λ (s : Seen). PerCode o c s.count s.entry first fs first fs) (sym (h c)) (start c fs));
  }
    where
      start : (c : ℕ) (fs : List Field) → PerCode o c 0 Absent first fs first fs
      start c fs = record { counted = omega arith; none = λ w. refl; entered = refl }

  module _ (y : Bytes b) (ss : List Seen) (at p : ℕ) (q : Option Kept) (l : at < length b) (h : Came o b at p q) (r : Run o b n first ss at) where
    ends : p ≡ end_of o h.field at
    ends = past o b y at p q h (omega arith)

    -- with what is held afterwards
    step : (next : List Seen) → ((c : ℕ) (fs all : List Field) → 1 ≤ c → c < 10 → AtCode o c ss at (h.field ∷ fs) first all → AtCode o c next p fs first all)
        → Run o b n first next p
    unfolding ret
    step next turn = go r.left r.enough r.refuses r.reads
      where
        go : (left : ℕ) → length b ≤ at + left → ((x : Refusal) → many left (field_r o) b at ≡ fault x → many n (field_r o) b first ≡ fault x)
            → ((fs : List Field) (e : ℕ) → many left (field_r o) b at ≡ got fs e
            → (all : List Field) × (many n (field_r o) b first ≡ got all e) × ((c : ℕ) → 1 ≤ c → c < 10 → AtCode o c ss at fs first all))
            → Run o b n first next p
        go zero a u v = absurd (omega arith)
        go (suc j) a u v =
            let on : many (suc j) (field_r o) b at ≡ (many j (field_r o) >>= λ fs. ret (h.field ∷ fs)) b p
            = many-round j (field_r o) b at l ∙ bind-got (field_r o) (λ g. many j (field_r o) >>= λ fs. ret (g ∷ fs)) b at h.field p h.reads in
            record {
              left = j;
              enough = omega (arith, (further o b y at p q h (omega arith)).0);
              refuses = λ x z. u x (on ∙ bind-fault (many j (field_r o)) (λ fs. ret (h.field ∷ fs)) b p x z);
              reads = λ fs e z. (let w = v (h.field ∷ fs) e (on ∙ bind-got (many j (field_r o)) (λ fs. ret (h.field ∷ fs)) b p fs e z) in (w.0, w.1, λ c i d. turn c fs w.0 i d (w.2 c i d)));
            }

    -- a field of which nothing is kept has no known code
    pub run-passed : ((k : Kept) → q ≡ Some k → ⊥) → Run o b n first ss p
    run-passed none = step ss (λ c fs all i j s. miss o c (get_or ss c unseen).count (get_or ss c unseen).entry at h.field fs first all s p (h.other none c i j) ends)

    pub run-kept : (k : Kept) → q ≡ Some k → length ss ≡ 10 → Run o b n first (seen_more ss k) p
    run-kept k some ten = step (seen_more ss k) turn
      where
        code : h.field.0 ≡ k.code
        code = (h.here k some).0

        turn : (c : ℕ) (fs all : List Field) → 1 ≤ c → c < 10 → AtCode o c ss at (h.field ∷ fs) first all → AtCode o c (seen_more ss k) p fs first all
        turn c fs all i j s = decide (eqb k.code c) refl
          where
            decide : (a : Bool) → eqb k.code c ≡ a → AtCode o c (seen_more ss k) p fs first all
            decide true e =
                let z : k.code ≡ c = eqb→eq k.code c (subst T (sym e) tt) in
                let new : k.entry ≡ entry_as (end_of o h.field at) h.field.1 = (h.here k some).1 ∙ ap (λ (d : ℕ). entry_as d h.field.1) ends in
                let same : get_or (seen_more ss k) c unseen ≡ again (get_or ss c unseen) k.entry =
                subst (λ (d : ℕ). get_or (seen_more ss k) d unseen ≡ again (get_or ss d unseen) k.entry) z
                (get_or-set_same ss k.code (again (get_or ss k.code unseen) k.entry) unseen (omega (arith, h.small k some))) in
                subst (λ (d : Seen). PerCode o c d.count d.entry p fs first all) (sym same)
                (hit o c (get_or ss c unseen).count (get_or ss c unseen).entry at h.field fs first all s k.entry p (code ∙ z) new)
            decide false e =
                let z : (k.code ≡ c → ⊥) = λ w. subst (λ (a : Bool). T a) (sym (eq-eqb k.code c w) ∙ e) tt in
                let same : get_or (seen_more ss k) c unseen ≡ get_or ss c unseen =
                get_or-set_other ss k.code c (again (get_or ss k.code unseen) k.entry) unseen (λ w. z (sym w)) in
                subst (λ (d : Seen). PerCode o c d.count d.entry p fs first all) (sym same)
                (miss o c (get_or ss c unseen).count (get_or ss c unseen).entry at h.field fs first all s p (λ w. z (sym code ∙ w)) ends)

  module _ (ss : List Seen) (at : ℕ) (kind : MessageType) (r : Run o b n first ss at) where
    pub run-refused : (x : Refusal) → at < length b → field_r o b at ≡ fault x → Err x ≡ table_to o first (fields_r o kind n b first)
    unfolding fields_r
    run-refused x l q =
        sym (ap (table_to o first) (bind-fault (many n (field_r o)) (λ fs. check (complete kind fs) InvalidHeaderFields 0 >> ret fs) b first x (go r.left r.enough r.refuses)))
      where
        go : (left : ℕ) → length b ≤ at + left → ((x : Refusal) → many left (field_r o) b at ≡ fault x → many n (field_r o) b first ≡ fault x) → many n (field_r o) b first ≡ fault x
        go zero a u = absurd (omega arith)
        go (suc j) a u = u x (many-round j (field_r o) b at l ∙ bind-fault (field_r o) (λ g. many j (field_r o) >>= λ fs. ret (g ∷ fs)) b at x q)

    module _ (l : length b ≤ at) where
      abbrev ended : (all : List Field) × (many n (field_r o) b first ≡ got all at) × ((c : ℕ) → 1 ≤ c → c < 10 → AtCode o c ss at [] first all)
      ended = r.reads [] at (many-end r.left (field_r o) b at l)

      abbrev all : List Field
      all = ended.0

      is-count : (c : ℕ) → 1 ≤ c → c < 10 → (get_or ss c unseen).count ≡ count c all
      unfolding count
      is-count c i j = omega (arith, (ended.2 c i j).counted)

      is-entry : (c : ℕ) → 1 ≤ c → c < 10 → (get_or ss c unseen).entry ≡ entry o c all first
      unfolding entry
      is-entry c i j = go (get_or ss c unseen).count (get_or ss c unseen).entry (ended.2 c i j).none (ended.2 c i j).entered
        where
          go : (m : ℕ) (e : Entry) → (m ≡ 0 → e ≡ Absent) → first_of m e Absent ≡ entry o c all first → e ≡ entry o c all first
          go zero e u v = u refl ∙ v
          go (suc m) e u v = v

      are-complete : (present kind ss && once ss) ≡ complete kind all
      unfolding present once complete
      are-complete = ap₂ (λ (x y : Bool). x && y) (needs kind) known
        where
          at_least : (c : ℕ) → 1 ≤ c → c < 10 → leb 1 (get_or ss c unseen).count ≡ leb 1 (count c all)
          at_least c i j = ap (leb 1) (is-count c i j)

          at_most : (c : ℕ) → 1 ≤ c → c < 10 → leb (get_or ss c unseen).count 1 ≡ leb (count c all) 1
          at_most c i j = ap (λ (x : ℕ). leb x 1) (is-count c i j)

          needs : (k : MessageType) → every (λ c. leb 1 (get_or ss c unseen).count) (needed k) ≡ every (λ c. leb 1 (count c all)) (needed k)
          needs Call = rw (at_least 1 (omega arith) (omega arith), at_least 3 (omega arith) (omega arith))
          needs Reply = rw (at_least 5 (omega arith) (omega arith))
          needs Error = rw (at_least 4 (omega arith) (omega arith), at_least 5 (omega arith) (omega arith))
          needs Signal = rw (at_least 1 (omega arith) (omega arith), at_least 2 (omega arith) (omega arith), at_least 3 (omega arith) (omega arith))

          known : every (λ c. leb (get_or ss c unseen).count 1) known_codes ≡ every (λ c. leb (count c all) 1) known_codes
          known = every-same (λ c. leb (get_or ss c unseen).count 1) (λ c. leb (count c all) 1) known_codes
              (each_from (λ c. leb (get_or ss c unseen).count 1 ≡ leb (count c all) 1) 9 1 (λ c i j. at_most c i (omega arith)))

      tested : fields_r o kind n b first ≡ (check (complete kind all) InvalidHeaderFields 0 >> ret all) b at
      unfolding fields_r
      tested = bind-got (many n (field_r o)) (λ fs. check (complete kind fs) InvalidHeaderFields 0 >> ret fs) b first all at ended.1

      pub run-incomplete : (x : Refusal) (a : Bool) → a ≡ (present kind ss && once ss) → a ≡ false → x ≡ refusal InvalidHeaderFields 0 → Err x ≡ table_to o first (fields_r o kind n b first)
      run-incomplete x a h q e =
          rw e (sym (ap (table_to o first) (tested ∙ check-stop (complete kind all) (refusal InvalidHeaderFields 0) (λ z. ret all) b at (sym are-complete ∙ sym h ∙ q))))

      are-kept : by_code ss ≡ fields_from o all first
      are-kept = fields-same (λ c. (get_or ss c unseen).entry) (λ c. entry o c all first)
          (each_from (λ c. (get_or ss c unseen).entry ≡ entry o c all first) 9 1 (λ c i j. is-entry c i (omega arith)))

      pub run-ended : (a : Bool) → a ≡ (present kind ss && once ss) → a ≡ true → Ok (by_code ss) ≡ table_to o first (fields_r o kind n b first)
      unfolding ret
      run-ended a h q =
          ap (λ (f : Fields). Ok f) are-kept ∙ sym (ap (table_to o first) (tested ∙ check_bind (complete kind all) InvalidHeaderFields 0 (λ z. ret all) b at (subst T (sym (sym are-complete ∙ sym h ∙ q)) tt)))

-- no code is seen more often than there are bytes before the place
pub few : (ss : List Seen) (at p : ℕ) (k : Kept) → length ss ≡ 10 → k.code < 10 → at < p → ((j : ℕ) → (get_or ss j unseen).count ≤ at)
    → (j : ℕ) → (get_or (seen_more ss k) j unseen).count ≤ p
few ss at p k l m q h j = go (eqb k.code j) refl
  where
    go : (a : Bool) → eqb k.code j ≡ a → (get_or (seen_more ss k) j unseen).count ≤ p
    go true e =
        let z : k.code ≡ j = eqb→eq k.code j (subst T (sym e) tt) in
        let y : (get_or (seen_more ss k) k.code unseen).count ≡ (get_or ss k.code unseen).count + 1 =
        ap (λ (s : Seen). s.count) (get_or-set_same ss k.code (again (get_or ss k.code unseen) k.entry) unseen (omega arith)) in
        subst (λ (d : ℕ). (get_or (seen_more ss k) d unseen).count ≤ p) z (omega (arith, y, h k.code))
    go false e =
        let z : (k.code ≡ j → ⊥) = λ w. subst (λ (a : Bool). T a) (sym (eq-eqb k.code j w) ∙ e) tt in
        let y : (get_or (seen_more ss k) j unseen).count ≡ (get_or ss j unseen).count =
        ap (λ (s : Seen). s.count) (get_or-set_other ss k.code j (again (get_or ss k.code unseen) k.entry) unseen (λ w. z (sym w))) in
        omega (arith, y, h j)

-- an array that holds nothing yet
pub blank : {A : Type 0} (n k : ℕ) (a : A) → get_or (replicate n a) k a ≡ a
blank zero k a = refl
blank (suc n) zero a = refl
blank (suc n) (suc k) a = blank n k a
