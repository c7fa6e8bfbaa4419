-- Demand 2 for the basic values.
use Prim.Native.Nat.{ℕ, ◌+◌, ◌^◌, ◌≤◌, ◌<◌}
use native.Mathlib.Omega.{arith}
use mathlib.Core.Bool.{Bool}
use mathlib.Core.List.{List, [], ◌∷◌, ◌++◌}
use mathlib.Core.Logic.{◌↔◌}
use mathlib.Core.Path.{◌≡◌, refl, ap, sym, subst, ◌∙◌}
use lib.ListN.{length, take, drop, length-append, length-drop, take-append-drop, replicate}
use lib.Seq.{length-take-le, take-append_seam, drop-append_seam}
use lib.Dec.{T, ltb→lt, lt→ltb, lit≤}
use Rattle.meaning.specs.Reader.{got, R, ret, here, fail, ◌>>=◌, ◌>>◌, check, bytes}
use Rattle.meaning.proofs.Local.{bind_inv, bind-got, ret_inv}
use Rattle.meaning.specs.Types.{Fix, byte, bool, i16, u16, i32, u32, i64, u64, dbl, fd, Base, fix, str, path, sig, Ty, size, top, align_base}
use Rattle.meaning.specs.Number.{store, load, zeros}
use Rattle.meaning.proofs.NumberLaws.{Bytes, length-store, load_store}
use Rattle.meaning.specs.Text.{IsUtf8, IsPath, utf8, no_zero, is_path}
use Rattle.meaning.proofs.Utf8.{utf8-sound, utf8-complete}
use Rattle.meaning.proofs.Paths.{path-sound, path-complete}
use Rattle.meaning.specs.Value.{Layout, raw, Cond, sized, bare, enc_base, OkBase}
use Rattle.meaning.specs.ReadValue.{valid, any, read_fix, sized_r, read_text, read_path, read_sig, accept, read_g, bare_r, base_r}
use Rattle.meaning.proofs.ValueLocal.{padding-local}
use Rattle.meaning.specs.Signature.{parse, Parsed, types, refused, all_legal, spell_all}
use Rattle.meaning.proofs.SignatureLaws.{parse-sound, parse-complete, spelled-utf8}
use Rattle.meaning.proofs.Meets.{stored, padded, At, at_split, at_join, Meets, here-bind, check_bind, check-bind-inv, bytes-bind, bytes-bind-inv, zeros-are}
use Rattle.meaning.specs.declared.Fault.TheVariants.{InvalidBoolean, InvalidUtf8, StringContainsNullByte, MissingTerminator, InvalidObjectPath}
use Rattle.meaning.specs.declared.Order.{Order}
use Rattle.meaning.specs.declared.Fault.{Fault}

pub top-le : (c : Fix) → top c ≤ 256 ^ size c
top-le byte = lit≤ tt
top-le bool = lit≤ tt
top-le i16 = lit≤ tt
top-le u16 = lit≤ tt
top-le i32 = lit≤ tt
top-le u32 = lit≤ tt
top-le i64 = lit≤ tt
top-le u64 = lit≤ tt
top-le dbl = lit≤ tt
top-le fd = lit≤ tt

valid-top : (c : Fix) (x : ℕ) → T (valid c x) → x < 256 ^ size c → x < top c
valid-top byte x h k = k
valid-top bool x h k = ltb→lt x 2 h
valid-top i16 x h k = k
valid-top u16 x h k = k
valid-top i32 x h k = k
valid-top u32 x h k = k
valid-top i64 x h k = k
valid-top u64 x h k = k
valid-top dbl x h k = k
valid-top fd x h k = k

top-valid : (c : Fix) (x : ℕ) → x < top c → T (valid c x)
top-valid byte x h = tt
top-valid bool x h = lt→ltb x 2 h
top-valid i16 x h = tt
top-valid u16 x h = tt
top-valid i32 x h = tt
top-valid u32 x h = tt
top-valid i64 x h = tt
top-valid u64 x h = tt
top-valid dbl x h = tt
top-valid fd x h = tt

module _ (o : Order) (c : Fix) where
  fix-sound : (b : List ℕ) → Bytes b → (off : ℕ) (v : ℕ) (e : ℕ) → off ≤ length b → read_fix o c b off ≡ got v e → (v < top c) × At b off (store o (size c) v) e
  unfolding read_fix
  fix-sound b y off v e l q =
      let body : ℕ → List ℕ → R ℕ = λ p xs. check (valid c (load o xs)) InvalidBoolean p >> ret (load o xs) in
      let i = bytes-bind-inv (size c) off (body off) b off v e (sym (here-bind (λ p. bytes (size c) p >>= body p) b off) ∙ q) in
      let j = check-bind-inv (valid c (load o i.0)) InvalidBoolean off (λ z. ret (load o i.0)) b i.1 v e i.6 in
      let w = ret_inv (load o i.0) b i.1 v e j.1 in
      let s : i.0 ≡ store o (size c) v = (stored o (size c) i.0 b off y i.2 i.3).1 ∙ ap (λ (z : ℕ). store o (size c) z) w.0 in (
        subst (λ (z : ℕ). z < top c) w.0 (valid-top c (load o i.0) j.0 (stored o (size c) i.0 b off y i.2 i.3).0),
        subst (λ (z : List ℕ). At b off z e) s (subst (λ (z : ℕ). At b off i.0 z) w.1 i.4),
      )

  fix-complete : (b : List ℕ) (off : ℕ) (v : ℕ) (e : ℕ) → v < top c → At b off (store o (size c) v) e → e ≤ length b → read_fix o c b off ≡ got v e
  unfolding read_fix ret
  fix-complete b off v e k t l =
      let body : ℕ → List ℕ → R ℕ = λ p xs. check (valid c (load o xs)) InvalidBoolean p >> ret (load o xs) in
      let xs : List ℕ = store o (size c) v in
      let ld : load o xs ≡ v = load_store o (size c) v (omega (arith, top-le c)) in
      here-bind (λ p. bytes (size c) p >>= body p) b off
      ∙ bytes-bind (size c) off (body off) b off xs e (length-store o (size c) v) t l
      ∙ check_bind (valid c (load o xs)) InvalidBoolean off (λ z. ret (load o xs)) b e (rw ld (top-valid c v k))
      ∙ ap (λ (z : ℕ). got z e) ld

  fixed : Meets (read_fix o c) (λ v. raw (store o (size c) v)) (λ v off. v < top c)
  fixed = record { sound = fix-sound; complete = fix-complete }

zero_one : (xs : List ℕ) → T (zeros xs) → length xs ≡ 1 → xs ≡ 0 ∷ []
zero_one xs h l = zeros-are xs h ∙ ap (λ (n : ℕ). replicate n 0) l

module _ (o : Order) (w : ℕ) (test : List ℕ → Bool) where
  abbrev tail7 : ℕ → ℕ → List ℕ → R (List ℕ)
  tail7 p n s = check (utf8 (take n s)) InvalidUtf8 p >> (check (test (take n s)) StringContainsNullByte p >> (check (zeros (drop n s)) MissingTerminator p >> ret (take n s)))

  sized-sound : (b : List ℕ) → Bytes b → (off : ℕ) (v : List ℕ) (e : ℕ) → off ≤ length b → sized_r o w test b off ≡ got v e
      → (T (utf8 v) × T (test v) × (length v < 256 ^ w)) × At b off (sized o w v) e
  unfolding sized_r sized
  sized-sound b y off v e l q =
      let i = bytes-bind-inv w off (λ x. bytes (load o x + 1) off >>= λ s. tail7 off (load o x) s) b off v e
      (sym (here-bind (λ p. bytes w p >>= λ x. bytes (load o x + 1) p >>= λ s. tail7 p (load o x) s) b off) ∙ q) in
      let x : List ℕ = i.0 in
      let n : ℕ = load o x in
      let j = bytes-bind-inv (n + 1) off (λ s. tail7 off n s) b i.1 v e i.6 in
      let s : List ℕ = j.0 in
      let c6 = check-bind-inv (utf8 (take n s)) InvalidUtf8 off (λ z. check (test (take n s)) StringContainsNullByte off >> (check (zeros (drop n s)) MissingTerminator off >> ret (take n s))) b j.1 v e j.6 in
      let c7 = check-bind-inv (test (take n s)) StringContainsNullByte off (λ z. check (zeros (drop n s)) MissingTerminator off >> ret (take n s)) b j.1 v e c6.1 in
      let c8 = check-bind-inv (zeros (drop n s)) MissingTerminator off (λ z. ret (take n s)) b j.1 v e c7.1 in
      let r = ret_inv (take n s) b j.1 v e c8.1 in
      let vl : length v ≡ n = ap length (sym r.0) ∙ length-take-le n s (omega (arith, j.2)) in
      let dz : drop n s ≡ 0 ∷ [] = zero_one (drop n s) c8.0 (length-drop n s ∙ omega (arith, j.2)) in
      let ss : s ≡ v ++ 0 ∷ [] = sym (take-append-drop n s) ∙ ap (λ (z : List ℕ). z ++ drop n s) r.0 ∙ ap (λ (z : List ℕ). v ++ z) dz in
      let st = stored o w x b off y i.2 i.3 in
      let xs : x ≡ store o w (length v) = st.1 ∙ ap (λ (z : ℕ). store o w z) (sym vl) in
      let a1 : At b off (store o w (length v)) i.1 = subst (λ (z : List ℕ). At b off z i.1) xs i.4 in
      let a2 : At b i.1 (v ++ 0 ∷ []) j.1 = subst (λ (z : List ℕ). At b i.1 z j.1) ss j.4 in (
        (subst (λ (z : List ℕ). T (utf8 z)) r.0 c6.0, subst (λ (z : List ℕ). T (test z)) r.0 c7.0, rw vl st.0),
        subst (λ (z : ℕ). At b off (store o w (length v) ++ (v ++ 0 ∷ [])) z) r.1 (at_join b off (store o w (length v)) i.1 (v ++ 0 ∷ []) j.1 a1 a2),
      )

  sized-complete : (b : List ℕ) (off : ℕ) (v : List ℕ) (e : ℕ) → T (utf8 v) × T (test v) × (length v < 256 ^ w) → At b off (sized o w v) e → e ≤ length b
      → sized_r o w test b off ≡ got v e
  unfolding sized_r sized ret zeros
  sized-complete b off v e k t l =
      let x : List ℕ = store o w (length v) in
      let s : List ℕ = v ++ 0 ∷ [] in
      let ld : load o x ≡ length v = load_store o w (length v) k.2 in
      let sp = at_split b off x s e t in
      let m : ℕ = off + length x in
      let sl : length s ≡ length v + 1 = length-append v (0 ∷ []) in
      let tk : take (length v) s ≡ v = take-append_seam v (0 ∷ []) in
      let dk : drop (length v) s ≡ 0 ∷ [] = drop-append_seam v (0 ∷ []) in
      let q1 : sized_r o w test b off ≡ (bytes (load o x + 1) off >>= λ s. tail7 off (load o x) s) b m
      = here-bind (λ p. bytes w p >>= λ x. bytes (load o x + 1) p >>= λ s. tail7 p (load o x) s) b off
      ∙ bytes-bind w off (λ x. bytes (load o x + 1) off >>= λ s. tail7 off (load o x) s) b off x m (length-store o w (length v)) sp.0 (omega (arith, sp.1.end)) in
      let q2 : (bytes (length v + 1) off >>= λ s. tail7 off (length v) s) b m ≡ tail7 off (length v) s b e
      = bytes-bind (length v + 1) off (λ s. tail7 off (length v) s) b m s e sl sp.1 l in
      let q3 : tail7 off (length v) s b e ≡ got (take (length v) s) e
      = check_bind (utf8 (take (length v) s)) InvalidUtf8 off
      (λ z. check (test (take (length v) s)) StringContainsNullByte off >> (check (zeros (drop (length v) s)) MissingTerminator off >> ret (take (length v) s))) b e (rw tk k.0)
      ∙ check_bind (test (take (length v) s)) StringContainsNullByte off (λ z. check (zeros (drop (length v) s)) MissingTerminator off >> ret (take (length v) s)) b e (rw tk k.1)
      ∙ check_bind (zeros (drop (length v) s)) MissingTerminator off (λ z. ret (take (length v) s)) b e (rw dk tt) in
      q1 ∙ ap (λ (z : ℕ). (bytes (z + 1) off >>= λ s. tail7 off z s) b m) ld ∙ q2 ∙ q3 ∙ ap (λ (z : List ℕ). got z e) tk

  pub sizeds : Meets (sized_r o w test) (λ v. raw (sized o w v)) (λ v off. T (utf8 v) × T (test v) × (length v < 256 ^ w))
  sizeds = record { sound = sized-sound; complete = sized-complete }

-- a reader with one more test at its start
module _ {A : Type 0} (r : R A) (f : A → Layout) (k : A → Cond) (h : Meets r f k) (test : A → Bool) (n : Fault) where
  pub tested_r : R A
  tested_r = here >>= λ p. r >>= λ s. check (test s) n p >> ret s

  tested-sound : (b : List ℕ) → Bytes b → (off : ℕ) (v : A) (e : ℕ) → off ≤ length b → tested_r b off ≡ got v e → (k v off × T (test v)) × At b off (f v off) e
  unfolding tested_r
  tested-sound b y off v e l q =
      let i = bind_inv r (λ s. check (test s) n off >> ret s) b off v e (sym (here-bind (λ p. r >>= λ s. check (test s) n p >> ret s) b off) ∙ q) in
      let j = check-bind-inv (test i.0) n off (λ z. ret i.0) b i.1 v e i.3 in
      let w = ret_inv i.0 b i.1 v e j.1 in
      let s = h.sound b y off i.0 i.1 l i.2 in
      let res : (k i.0 off × T (test i.0)) × At b off (f i.0 off) i.1 = ((s.0, j.0), s.1) in
      subst (λ (z : ℕ). (k v off × T (test v)) × At b off (f v off) z) w.1 (subst (λ (z : A). (k z off × T (test z)) × At b off (f z off) i.1) w.0 res)

  tested-complete : (b : List ℕ) (off : ℕ) (v : A) (e : ℕ) → k v off × T (test v) → At b off (f v off) e → e ≤ length b → tested_r b off ≡ got v e
  unfolding tested_r ret
  tested-complete b off v e c t l =
      here-bind (λ p. r >>= λ s. check (test s) n p >> ret s) b off
      ∙ bind-got r (λ s. check (test s) n off >> ret s) b off v e (h.complete b off v e c.0 t l)
      ∙ check_bind (test v) n off (λ z. ret v) b e c.1

  pub tested : Meets tested_r f (λ v off. k v off × T (test v))
  tested = record { sound = tested-sound; complete = tested-complete }

-- the same bytes under an equivalent condition
pub under : {A : Type 0} (r : R A) (f : A → Layout) (k l : A → Cond) → Meets r f k → ((v : A) (off : ℕ) → k v off ↔ l v off) → Meets r f l
under r f k l h e = record {
  sound = λ b y off v z n q. (let s = h.sound b y off v z n q in ((e v off).0 s.0, s.1));
  complete = λ b off v z c t n. h.complete b off v z ((e v off).1 c) t n;
}

pub accept-inv : (q : Parsed) (p : ℕ) (b : List ℕ) (off : ℕ) (ts : List Ty) (e : ℕ) → accept q p b off ≡ got ts e → (q ≡ types ts) × (off ≡ e)
unfolding accept ret fail
accept-inv (types us) p b off ts e h = (cc, cc)
accept-inv (refused n) p b off ts e h = absurd (let z : ◌≡◌ {A = ℕ} 0 1 = cc in omega arith)

pub accept-got : (ts : List Ty) (p : ℕ) (b : List ℕ) (off : ℕ) → accept (types ts) p b off ≡ got ts off
unfolding accept ret
accept-got ts p b off = refl

-- a signature that is read, with its types
pub sig-sound : (o : Order) (b : List ℕ) → Bytes b → (off p : ℕ) (s : List ℕ) (m : ℕ) (ts : List Ty) (e : ℕ) → off ≤ length b → read_sig o b off ≡ got s m → accept (parse s) p b m ≡ got ts e
    → T (all_legal ts) × (s ≡ spell_all ts) × (length s ≤ 255) × At b off (sized o 1 s) e
unfolding read_sig
sig-sound o b y off p s m ts e l q g =
    let i = sized-sound o 1 any b y off s m l q in
    let j = accept-inv (parse s) p b m ts e g in
    let w = parse-sound s ts j.0 in
    (w.0, w.1, w.2, subst (λ (z : ℕ). At b off (sized o 1 s) z) j.1 i.1)

pub sig-complete : (o : Order) (b : List ℕ) (off p : ℕ) (ts : List Ty) (e : ℕ) → T (all_legal ts) → length (spell_all ts) ≤ 255 → At b off (sized o 1 (spell_all ts)) e → e ≤ length b
    → (read_sig o b off ≡ got (spell_all ts) e) × (accept (parse (spell_all ts)) p b e ≡ got ts e)
unfolding read_sig
sig-complete o b off p ts e h n t l = (
  sized-complete o 1 any b off (spell_all ts) e (spelled-utf8 ts, tt, omega arith) t l,
  ap (λ (z : Parsed). accept z p b e) (parse-complete ts h n) ∙ accept-got ts p b e,
)

module _ (o : Order) where
  g-sound : (b : List ℕ) → Bytes b → (off : ℕ) (v : List ℕ) (e : ℕ) → off ≤ length b → read_g o b off ≡ got v e → OkBase sig v × At b off (sized o 1 v) e
  unfolding read_g OkBase
  g-sound b y off v e l q =
      let i = bind_inv (read_sig o) (λ s. accept (parse s) off >>= λ ts. ret s) b off v e (sym (here-bind (λ p. read_sig o >>= λ s. accept (parse s) p >>= λ ts. ret s) b off) ∙ q) in
      let j = bind_inv (accept (parse i.0) off) (λ ts. ret i.0) b i.1 v e i.3 in
      let w = ret_inv i.0 b j.1 v e j.3 in
      let s = sig-sound o b y off off i.0 i.1 j.0 j.1 l i.2 j.2 in
      let z1 : v ≡ spell_all j.0 = sym w.0 ∙ s.1 in (
        (j.0, s.0, z1, subst (λ (z : List ℕ). length z ≤ 255) w.0 s.2),
        subst (λ (z : ℕ). At b off (sized o 1 v) z) w.1 (subst (λ (z : List ℕ). At b off (sized o 1 z) j.1) w.0 s.3),
      )

  g-complete : (b : List ℕ) (off : ℕ) (v : List ℕ) (e : ℕ) → OkBase sig v → At b off (sized o 1 v) e → e ≤ length b → read_g o b off ≡ got v e
  unfolding read_g OkBase ret
  g-complete b off v e k t l =
      let ts : List Ty = k.0 in
      let z : v ≡ spell_all ts = k.2 in
      let i = sig-complete o b off off ts e k.1 (subst (λ (x : List ℕ). length x ≤ 255) z k.3) (subst (λ (x : List ℕ). At b off (sized o 1 x) e) z t) l in
      here-bind (λ p. read_sig o >>= λ s. accept (parse s) p >>= λ ts. ret s) b off
      ∙ bind-got (read_sig o) (λ s. accept (parse s) off >>= λ ts. ret s) b off (spell_all ts) e i.0
      ∙ bind-got (accept (parse (spell_all ts)) off) (λ us. ret (spell_all ts)) b e ts e i.1
      ∙ ap (λ (x : List ℕ). got x e) (sym z)

  pub bares : (c : Base) → Meets (bare_r o c) (λ v. raw (bare o c v)) (λ v off. OkBase c v)
  unfolding bare_r bare OkBase read_text read_path tested_r
  bares (fix c) = fixed o c
  bares str = under (read_text o) (λ v. raw (sized o 4 v)) (λ v off. T (utf8 v) × T (no_zero v) × (length v < 256 ^ 4)) (λ v off. IsUtf8 v × T (no_zero v) × (length v < 256 ^ 4))
      (sizeds o 4 no_zero)
      (λ v off. (λ x. (utf8-sound v x.0, x.1, x.2), λ x. (utf8-complete v x.0, x.1, x.2)))
  bares path = under (read_path o) (λ v. raw (sized o 4 v)) (λ v off. (T (utf8 v) × T (no_zero v) × (length v < 256 ^ 4)) × T (is_path v)) (λ v off. IsUtf8 v × T (no_zero v) × (length v < 256 ^ 4) × IsPath v)
      (tested (read_text o) (λ v. raw (sized o 4 v)) (λ v off. T (utf8 v) × T (no_zero v) × (length v < 256 ^ 4)) (sizeds o 4 no_zero) is_path InvalidObjectPath)
      (λ v off. (λ x. (utf8-sound v x.0.0, x.0.1, x.0.2, path-sound v x.1), λ x. ((utf8-complete v x.0, x.1, x.2), path-complete v x.3)))
  bares sig = record { sound = g-sound; complete = g-complete }

  pub bases : (c : Base) → Meets (base_r o c) (λ v. enc_base o c v) (λ v off. OkBase c v)
  unfolding base_r enc_base
  bases c = padded (align_base c) (bare_r o c) (λ v. raw (bare o c v)) (λ v off. OkBase c v) (bares c) (padding-local (align_base c)).bound
