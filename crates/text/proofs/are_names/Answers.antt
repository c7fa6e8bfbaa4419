-- Each byte takes the rule on by one step, by its class.
use Prim.Native.Nat.{ℕ}
use mathlib.Core.List.{List}
use mathlib.Core.Logic.{inl, inr}
use mathlib.Core.Path.{sym, ◌∙◌}
use native.Mathlib.Omega.{arith}
use lib.ListN.{get_or}
use Rattle.text.proofs.Classes.{classes, said}
use Rattle.text.proofs.Names.{name-on, slash-on, slash-twice, other-stop, names-end}
use Rattle.text.proofs.are_names.Goals as goal
use Rattle.text.proofs.are_names.Goals.{then-eq, else-eq+then-eq-2+then-not-after_slash}

pub returns-else-eq-2 : goal.returns-else-eq-2
unfolding classes
returns-else-eq-2 c =
    let s : List ℕ = c.args.s.now in
    let i : ℕ = c.loop-b.b-index in
    let y = said (get_or s i 0) (omega (arith, c.type_inv.s i)) in
    let h = c.loop-b-test.true in
    let e = c.loop-b.invariant in
    sym (elim c.else-eq-2.either [
      | inl p ↦ slash-twice s i h _ _ e _ y (sym c.eq-else-eq.ensures ∙ p.0) p.1
      | inr p ↦ other-stop s i h _ _ e _ y (sym c.eq.ensures ∙ c.if-eq.false) (sym c.eq-else-eq.ensures ∙ p)
    ])

pub loop-b-preserved : goal.loop-b-preserved
unfolding classes
loop-b-preserved c =
    let s : List ℕ = c.args.s.now in
    let i : ℕ = c.loop-b.b-index in
    let y = said (get_or s i 0) (omega (arith, c.type_inv.s i)) in
    let h = c.loop-b-test.true in
    let e = c.loop-b.invariant in
    elim c.if-eq.branch [
      | then-eq w ↦ rw w.after_slash-is (name-on s i h _ _ e _ y (sym c.eq.ensures ∙ w.if-eq.true))
      | else-eq+then-eq-2+then-not-after_slash w ↦ rw w.after_slash-is
          (slash-on s i h _ _ e _ y (sym w.eq-else-eq.ensures ∙ w.if-eq-2.true) w.if-not-after_slash.true)
    ]

pub returns : goal.returns
returns c = sym (c.loop-b.invariant ∙ names-end _ _ _ c.loop-b-test.false)
