-- In each arm the class is known, and with it what `lead` says of every byte that has it.
use mathlib.Core.Bool.{true, false}
use mathlib.Core.Path.{◌≡◌, refl, ap, sym, ◌∙◌}
use Rattle.meaning.specs.Text.{follow, no_lead}
use Rattle.std.specs.Prelude.{None}
use Rattle.text.specs.declared.Class.{Class}
use Rattle.text.specs.declared.Class.TheVariants.{Zero, Plain, Slash, Name, Never, Two, LowThree, Three, SurThree, LowFour, Four, TopFour}
use Rattle.text.proofs.Classes.{lead_of, leads_ascii}
use Rattle.text.proofs.Scans.{by-class}
use Rattle.text.proofs.first.Goals as goal
use Rattle.text.proofs.first.Goals.{in-Zero, in_default}

-- the class that is none of the others
never : (k : Class) → (k ≡ Zero → ⊥) → (k ≡ Plain → ⊥) → (k ≡ Slash → ⊥) → (k ≡ Name → ⊥)
    → (k ≡ Two → ⊥) → (k ≡ LowThree → ⊥) → (k ≡ Three → ⊥) → (k ≡ SurThree → ⊥) → (k ≡ LowFour → ⊥) → (k ≡ Four → ⊥) → (k ≡ TopFour → ⊥) → lead_of k ≡ no_lead
never Zero n _ _ _ _ _ _ _ _ _ _ = absurd (n refl)
never Plain _ n _ _ _ _ _ _ _ _ _ = absurd (n refl)
never Slash _ _ n _ _ _ _ _ _ _ _ = absurd (n refl)
never Name _ _ _ n _ _ _ _ _ _ _ = absurd (n refl)
never Two _ _ _ _ n _ _ _ _ _ _ = absurd (n refl)
never LowThree _ _ _ _ _ n _ _ _ _ _ = absurd (n refl)
never Three _ _ _ _ _ _ n _ _ _ _ = absurd (n refl)
never SurThree _ _ _ _ _ _ _ n _ _ _ = absurd (n refl)
never LowFour _ _ _ _ _ _ _ _ n _ _ = absurd (n refl)
never Four _ _ _ _ _ _ _ _ _ n _ = absurd (n refl)
never TopFour _ _ _ _ _ _ _ _ _ _ n = absurd (n refl)
never Never _ _ _ _ _ _ _ _ _ _ _ = refl

pub returns-then-matches : goal.returns-then-matches
returns-then-matches c = by-class _ (follow 0 0 0) c.asks.result (elim c.match-matches.branch [
  | in-Zero w ↦ leads_ascii _ w.in-Zero.is
  | in_default w ↦ absurd (let e : false ≡ true = sym w.matches-is ∙ c.if-matches.true in cc)
]) c.asks.ensures

pub returns-in-Two : goal.returns-in-Two
returns-in-Two c = by-class _ (follow 1 0x80 0xbf) c.asks-in-Two.result (ap lead_of c.in-Two.is) c.asks-in-Two.ensures

pub returns-in-LowThree : goal.returns-in-LowThree
returns-in-LowThree c = by-class _ (follow 2 0xa0 0xbf) c.asks-in-LowThree.result (ap lead_of c.in-LowThree.is) c.asks-in-LowThree.ensures

pub returns-in-Three : goal.returns-in-Three
returns-in-Three c = by-class _ (follow 2 0x80 0xbf) c.asks-in-Three.result (ap lead_of c.in-Three.is) c.asks-in-Three.ensures

pub returns-in-SurThree : goal.returns-in-SurThree
returns-in-SurThree c = by-class _ (follow 2 0x80 0x9f) c.asks-in-SurThree.result (ap lead_of c.in-SurThree.is) c.asks-in-SurThree.ensures

pub returns-in-LowFour : goal.returns-in-LowFour
returns-in-LowFour c = by-class _ (follow 3 0x90 0xbf) c.asks-in-LowFour.result (ap lead_of c.in-LowFour.is) c.asks-in-LowFour.ensures

pub returns-in-Four : goal.returns-in-Four
returns-in-Four c = by-class _ (follow 3 0x80 0xbf) c.asks-in-Four.result (ap lead_of c.in-Four.is) c.asks-in-Four.ensures

pub returns-in-TopFour : goal.returns-in-TopFour
returns-in-TopFour c = by-class _ (follow 3 0x80 0x8f) c.asks-in-TopFour.result (ap lead_of c.in-TopFour.is) c.asks-in-TopFour.ensures

pub returns-in_default-class : goal.returns-in_default-class
returns-in_default-class c =
    let d = c.in_default-class in
    by-class _ no_lead None (elim c.match-matches.branch [
      | in-Zero w ↦ absurd (let e : true ≡ false = sym w.matches-is ∙ c.if-matches.false in cc)
      | in_default w ↦
          let a = w.in_default in
          never _ a.not-Zero a.not-Plain a.not-Slash a.not-Name d.not-Two d.not-LowThree d.not-Three d.not-SurThree d.not-LowFour d.not-Four d.not-TopFour
    ]) (λ cs. refl)
