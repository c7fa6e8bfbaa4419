-- The first byte that is not plain ends the plain ones.
use Rattle.std.proofs.Common.{◌≡◌, ◌≤◌, ◌<◌, ◌⊎◌, sym, ◌∙◌, rules, tests}
use Rattle.std.proofs.lemmas.Iterator.{IsFirst-from_position, YieldsList-from_slice, index_from_first}
use Rattle.text.specs.Verdict.{plain_bytes}
use Rattle.text.proofs.Scans.{plain-none, plain-stop, plain-more}
use Rattle.text.proofs.plain_bytes.Goals as goal

pub returns : goal.returns
returns c =
    let s = c.args.s.now in
    let first = IsFirst-from_position _ _ _ (λ b. (b ≡ 0) ⊎ (127 < b)) (λ b. (1 ≤ b) × (b ≤ 127)) c.position.ensures.ran (YieldsList-from_slice s cc)
    (λ x q k. search (rules, tests)) (λ x q k. search (rules, tests)) in
    c.unwrap_or.ensures ∙ sym (index_from_first plain_bytes _ _ plain-none plain-stop plain-more s _ first)
