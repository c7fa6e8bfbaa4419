-- A message up to the end of its field table by the ways through the code: the first bytes, the table, and 21.
use Prim.Native.Nat.{ℕ, ◌+◌, ◌-◌, ◌≤◌, ◌<◌}
use native.Mathlib.Omega.{arith}
use mathlib.Core.Bool.{Bool, true, false}
use mathlib.Core.List.{List}
use mathlib.Core.Path.{◌≡◌, refl, ap, sym, subst, ◌∙◌}
use lib.ListN.{length, take, drop, get_or}
use lib.Dec.{T}
use Rattle.meaning.specs.declared.Order.{Order}
use Rattle.meaning.specs.declared.Refusal.{Refusal}
use Rattle.meaning.specs.declared.Fields.{Fields}
use Rattle.std.specs.Prelude.{Result, Ok, Err}
use Rattle.meaning.specs.declared.Fault.{Fault}
use Rattle.meaning.specs.declared.Fault.TheVariants.{NotEnoughBytes, InvalidByteOrder, InvalidMessageType, InvalidHeaderFields}
use Rattle.meaning.specs.Faults.{refusal, moved}
use Rattle.meaning.specs.Number.{load}
use Rattle.meaning.specs.Message.{Field, complete, Fixed}
use Rattle.meaning.specs.Reader.{Res, got, fault, stop, R, ret, ◌>>=◌, ◌>>◌, check, bytes, inside, many}
use Rattle.meaning.specs.ReadValue.{padding, length_r}
use Rattle.meaning.specs.ReadMessage.{is_mark, is_kind, fixed_in, size_in, fixed_r, field_r, table_r, open_r}
use Rattle.meaning.specs.Header.{fields_from, read_header}
use Rattle.meaning.proofs.Local.{Cmp, is_le, is_gt, cmp, bind-got, bind-fault, bind_inv, bind_is, Ran, ran, stopped, ret_inv, ret-no-fault, fault-inj, bytes-yes, bytes-no, window-yes, window-no, window-end}
use Rattle.meaning.proofs.Meets.{here-bind, check_bind, check-stop, check-bind-inv, bytes-bind-inv}
use Rattle.meaning.proofs.MessageLocal.{fields_r-bounded, fields_r-full}
use Rattle.header.specs.declared.fixed_header.Start.{Start}
use Rattle.header.specs.FixedHeader.{start_of, began_of}
use Rattle.header.specs.HeaderFields.{fields_r, table_to}
use Rattle.unmarshal.specs.Body.{Held}
use Rattle.header.proofs.fixed_header.HeadLaws.{kind_then, mark_then, start-short, start-mark, start-kind, start-read}
use Rattle.unmarshal.proofs.body.AfterLaws.{after1, after2, after3, opens, not_opened}

-- the first 12 bytes are refused at the message's start
at-start : (b : List ℕ) (x : Refusal) → began_of (fixed_r b 0) ≡ Err x → moved 0 x ≡ x
at-start b x h = go (cmp 12 (length b))
  where
    same : (f : Fault) → ◌≡◌ {A = Result Start Refusal} (Err (refusal f 0)) (Err x) → moved 0 x ≡ x
    same f q = let u : refusal f 0 ≡ x = cc in subst (λ (y : Refusal). moved 0 y ≡ y) u refl

    go : Cmp 12 (length b) → moved 0 x ≡ x
    go (is_gt t l) = same NotEnoughBytes (start-short b (refusal NotEnoughBytes 0) l refl ∙ h)
    go (is_le t l) = mark (is_mark (get_or b 0 0)) refl
      where
        mark : (a : Bool) → is_mark (get_or b 0 0) ≡ a → moved 0 x ≡ x
        mark false e = same InvalidByteOrder (start-mark b l (refusal InvalidByteOrder 0) e refl ∙ h)
        mark true e = kind (is_kind (get_or b 1 0)) refl
          where
            kind : (a : Bool) → is_kind (get_or b 1 0) ≡ a → moved 0 x ≡ x
            kind false k = same InvalidMessageType (start-kind b l e (refusal InvalidMessageType 0) k refl ∙ h)
            kind true k = absurd (let z = start-read b l e k _ _ _ _ refl refl refl refl ∙ h in let u : ◌≡◌ {A = ℕ} 0 1 = cc in omega arith)

module _ (b : List ℕ) where
  -- the first 12 bytes
  pub not-begun : (q : Result Start Refusal) (x : Refusal) → q ≡ began_of (fixed_r b 0) → q ≡ Err x → Err x ≡ read_header b
  unfolding open_r
  not-begun q x h k = go (fixed_r b 0) refl (sym h ∙ k)
    where
      go : (z : Res (Fixed × ℕ)) → fixed_r b 0 ≡ z → began_of z ≡ Err x → Err x ≡ read_header b
      go (got v m) z w = absurd (let u : ◌≡◌ {A = ℕ} 0 1 = cc in omega arith)
      go (fault v) z w =
          let u : v ≡ x = cc in
          not_opened b x x (bind-fault fixed_r after1 b 0 x (z ∙ ap (λ (r : Refusal). fault r) u)) (sym (at-start b x (sym h ∙ k)))

  pub record Begun (start : Start) : Type 0 where
    pub head : Fixed × ℕ
    pub begins : fixed_r b 0 ≡ got head 12
    pub starts : start ≡ start_of head

  twelve : (h : Fixed × ℕ) (e : ℕ) → fixed_r b 0 ≡ got h e → e ≡ 12
  unfolding fixed_r
  twelve h e q =
      let i = bytes-bind-inv 12 0 mark_then b 0 h e q in
      let c1 = check-bind-inv (is_mark (get_or i.0 0 0)) InvalidByteOrder 0 (λ z. kind_then i.0) b i.1 h e i.6 in
      let c2 = check-bind-inv (is_kind (get_or i.0 1 0)) InvalidMessageType 0 (λ z. ret (fixed_in i.0, size_in i.0)) b i.1 h e c1.1 in
      let w = ret_inv (fixed_in i.0, size_in i.0) b i.1 h e c2.1 in
      omega (arith, i.4.end, i.2, w.1)

  pub begun : (q : Result Start Refusal) (start : Start) → q ≡ began_of (fixed_r b 0) → q ≡ Ok start → Begun start
  begun q start h k = go (fixed_r b 0) refl (sym h ∙ k)
    where
      go : (z : Res (Fixed × ℕ)) → fixed_r b 0 ≡ z → began_of z ≡ Ok start → Begun start
      go (got v m) z w = record { head = v; begins = z ∙ ap (λ (i : ℕ). got v i) (twelve v m z); starts = let u : start_of v ≡ start = cc in sym u }
      go (fault v) z w = absurd (let u : ◌≡◌ {A = ℕ} 0 1 = cc in omega arith)

  -- the table's length
  module _ (h : Fixed × ℕ) (begins : fixed_r b 0 ≡ got h 12) where
    abbrev pub o : Order
    o = h.0.order

    no_table : (x y : Refusal) → table_r o b 12 ≡ fault x → y ≡ moved 0 x → Err y ≡ read_header b
    no_table x y q e = not_opened b x y (opens b h begins ∙ bind-fault (table_r o) (after2 h) b 12 x q) e

    short-of : (y : Refusal) → length b < 16 → y ≡ refusal NotEnoughBytes 0 → Err y ≡ read_header b
    unfolding table_r length_r
    short-of y l e =
        let s : length_r o b 12 ≡ stop NotEnoughBytes 12 =
        here-bind (λ q. bytes 4 q >>= λ y. ret (load o y)) b 12 ∙ bind-fault (bytes 4 12) (λ y. ret (load o y)) b 12 (refusal NotEnoughBytes 12) (bytes-no 4 12 b 12 l) in
        no_table (refusal NotEnoughBytes 12) y (bind-fault (length_r o) (λ n. inside n (many n (field_r o))) b 12 (refusal NotEnoughBytes 12) s) e

    module _ (n : ℕ) (long : 16 ≤ length b) (says : n ≡ load o (take 4 (drop 12 b))) where
      tabled : table_r o b 12 ≡ inside n (many n (field_r o)) b 16
      unfolding table_r length_r ret
      tabled =
          let s : length_r o b 12 ≡ got n 16 =
          here-bind (λ q. bytes 4 q >>= λ y. ret (load o y)) b 12 ∙ bind-got (bytes 4 12) (λ y. ret (load o y)) b 12 (take 4 (drop 12 b)) 16 (bytes-yes 4 12 b 12 long)
          ∙ ap (λ (y : ℕ). got y 16) (sym says) in
          bind-got (length_r o) (λ m. inside m (many m (field_r o))) b 12 n 16 s

      over : (y : Refusal) → length b < 16 + n → y ≡ refusal NotEnoughBytes 0 → Err y ≡ read_header b
      over y l e = no_table (refusal NotEnoughBytes 0) y (tabled ∙ window-no _ _ n (many n (field_r o)) b 16 l) e

      module _ (fits : 16 + n ≤ length b) where
        abbrev part : List ℕ
        part = take (16 + n) b

        fields-are : table_r o b 12 ≡ many n (field_r o) part 16
        fields-are = tabled ∙ window-yes _ _ n (many n (field_r o)) b 16 fits

        abbrev test : List Field → R (List Field)
        test fs = check (complete h.0.kind fs) InvalidHeaderFields 0 >> ret fs

        refused-fields : (x y : Refusal) → fields_r o h.0.kind n part 16 ≡ fault x → y ≡ moved 0 x → Err y ≡ read_header b
        unfolding fields_r
        refused-fields x y q e = go (bind_is (many n (field_r o)) test part 16)
          where
            failed : (fs : List Field) (m : ℕ) (a : Bool) → complete h.0.kind fs ≡ a → test fs part m ≡ fault x → (complete h.0.kind fs ≡ false) × (x ≡ refusal InvalidHeaderFields 0)
            failed fs m true z w =
                absurd (let u = sym (check_bind (complete h.0.kind fs) InvalidHeaderFields 0 (λ z. ret fs) part m (subst T (sym z) tt)) ∙ w in ret-no-fault fs part m x u)
            failed fs m false z w =
                (z, let u = sym (check-stop (complete h.0.kind fs) (refusal InvalidHeaderFields 0) (λ z. ret fs) part m z) ∙ w in sym (fault-inj (refusal InvalidHeaderFields 0) x u))

            go : Ran (many n (field_r o)) test part 16 → Err y ≡ read_header b
            go (stopped v z w) = let u : v ≡ x = fault-inj v x (sym w ∙ q) in no_table x y (fields-are ∙ z ∙ ap (λ (r : Refusal). fault r) u) e
            go (ran fs m z w) =
                let k = failed fs m (complete h.0.kind fs) refl (sym w ∙ q) in
                not_opened b x y
                (opens b h begins ∙ bind-got (table_r o) (after2 h) b 12 fs m (fields-are ∙ z)
                ∙ check-stop (complete h.0.kind fs) (refusal InvalidHeaderFields 0) (λ z. padding 8 >> after3 h fs) b m k.0 ∙ ap (λ (r : Refusal). fault r) (sym k.1)) e

        read-fields : (fs : List Field) (m : ℕ) → fields_r o h.0.kind n part 16 ≡ got fs m → (table_r o b 12 ≡ got fs (16 + n)) × T (complete h.0.kind fs)
        unfolding fields_r
        read-fields fs m q =
            let i = bind_inv (many n (field_r o)) test part 16 fs m q in
            let c = check-bind-inv (complete h.0.kind i.0) InvalidHeaderFields 0 (λ z. ret i.0) part i.1 fs m i.3 in
            let w = ret_inv i.0 part i.1 fs m c.1 in
            let t : table_r o b 12 ≡ got i.0 i.1 = fields-are ∙ i.2 in
            let e : i.1 ≡ 16 + n = window-end _ _ n (many n (field_r o)) (fields_r-bounded o n) (fields_r-full o n) b 16 i.0 i.1 (sym tabled ∙ t) in
            (t ∙ ap (λ (k : ℕ). got i.0 k) e ∙ ap (λ (g : List Field). got g (16 + n)) w.0, subst (λ (g : List Field). T (complete h.0.kind g)) w.0 c.0)

  -- the same in the terms of the code
  module _ (start : Start) (g : Begun start) where
    order_is : start.order ≡ g.head.0.order
    order_is = ap (λ (s : Start). s.order) g.starts

    pub table-short : (y : Refusal) → length b < 16 → y ≡ refusal NotEnoughBytes 0 → Err y ≡ read_header b
    table-short y l e = short-of g.head g.begins y l e

    module _ (n : ℕ) (long : 16 ≤ length b) (says : n ≡ load start.order (take 4 (drop 12 b))) where
      told : n ≡ load g.head.0.order (take 4 (drop 12 b))
      told = says ∙ ap (λ (x : Order). load x (take 4 (drop 12 b))) order_is

      pub table-over : (y : Refusal) → length b - 16 < n → y ≡ refusal NotEnoughBytes 0 → Err y ≡ read_header b
      table-over y l e = over g.head g.begins n long told y (omega arith) e

      module _ (fits : n ≤ length b - 16) (q : Result Fields Refusal) (answers : q ≡ table_to start.order 16 (fields_r start.order start.kind (16 + n - 16) (take (16 + n) b) 16)) where
        enough : 16 + n ≤ length b
        enough = omega arith

        abbrev result : Res (List Field)
        result = fields_r g.head.0.order g.head.0.kind n (take (16 + n) b) 16

        are : q ≡ table_to g.head.0.order 16 result
        are =
            let z : 16 + n - 16 ≡ n = omega arith in
            answers ∙ ap (λ (m : ℕ). table_to start.order 16 (fields_r start.order start.kind m (take (16 + n) b) 16)) z
            ∙ ap (λ (x : Start). table_to x.order 16 (fields_r x.order x.kind n (take (16 + n) b) 16)) g.starts

        pub table-refused : (x y : Refusal) → q ≡ Err x → y ≡ moved 0 x → Err y ≡ read_header b
        table-refused x y k e = go result refl (sym are ∙ k)
          where
            go : (z : Res (List Field)) → result ≡ z → table_to g.head.0.order 16 z ≡ Err x → Err y ≡ read_header b
            go (got fs m) z w = absurd (let u : ◌≡◌ {A = ℕ} 0 1 = cc in omega arith)
            go (fault v) z w = let u : v ≡ x = cc in refused-fields g.head g.begins n long told enough x y (z ∙ ap (λ (r : Refusal). fault r) u) e

        pub table-read : (fields : Fields) → q ≡ Ok fields → Held b start fields (16 + n)
        table-read fields k = go result refl (sym are ∙ k)
          where
            go : (z : Res (List Field)) → result ≡ z → table_to g.head.0.order 16 z ≡ Ok fields → Held b start fields (16 + n)
            go (fault v) z w = absurd (let u : ◌≡◌ {A = ℕ} 0 1 = cc in omega arith)
            go (got fs m) z w =
                let i = read-fields g.head g.begins n long told enough fs m z in
                let u : fields_from g.head.0.order fs 16 ≡ fields = cc in
                record { head = g.head; list = fs; begins = g.begins; starts = g.starts; tabled = i.0; whole = i.1; kept = sym u }
