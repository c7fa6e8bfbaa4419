-- Each return is one way through `sized_r`, for every order in which the length field says `len`.
use mathlib.Core.Path.{◌∙◌}
use Rattle.std.specs.Prelude.{Ok, Err}
use Rattle.text.specs.declared.BadText.TheVariants.{NotUtf8, HasZero}
use Rattle.text.proofs.Scans.{text_says}
use Rattle.text.proofs.strings.Strings.{no_room, no-utf8, null-byte, well, lax-fine, lax-any, lax-not}
use Rattle.text.proofs.strings.sized.Goals as goal

pub returns-then-buf-first : goal.returns-then-buf-first
returns-then-buf-first c = λ o q. no_room o _ _ _ _ c.requires _ q c.if-buf-first.true _ c.refuse.ensures

pub returns-in-Ok : goal.returns-in-Ok
returns-in-Ok c =
    let k = c in
    let start = k in
    let t = text_says (Ok tt) _ c.in-Ok.ensures in
    λ o q. c.terminated.ensures
    ∙ well o _ _ _ _ start.requires _ q k.if-buf-first.false t.0 (lax-fine start.args.lax _ t.1)

pub returns-in-Err-NotUtf8 : goal.returns-in-Err-NotUtf8
returns-in-Err-NotUtf8 c =
    let k = c in
    let asked = k.requires in
    let t = text_says (Err NotUtf8) _ (rw c.in-Err-NotUtf8.field-0-is at c.in-Err-NotUtf8.ensures) in
    λ o q. no-utf8 o _ _ _ _ asked _ q k.if-buf-first.false t _ c.refuse-in-Err-NotUtf8.ensures

pub returns-then-lax : goal.returns-then-lax
returns-then-lax c =
    let k = c in
    let start = k in
    let t = text_says (Err HasZero) _ (rw c.in-Err-HasZero.field-0-is at c.in-Err-HasZero.ensures) in
    λ o q. c.terminated-then-lax.ensures
    ∙ well o _ _ _ _ start.requires _ q k.if-buf-first.false t.0 (lax-any start.args.lax _ c.if-lax.true)

pub returns-else-lax : goal.returns-else-lax
returns-else-lax c =
    let k = c in
    let start = k in
    let t = text_says (Err HasZero) _ (rw c.in-Err-HasZero.field-0-is at c.in-Err-HasZero.ensures) in
    let strict = lax-not start.args.lax _ c.if-lax.false t.1 in
    λ o q. null-byte o _ _ _ _ start.requires _ q k.if-buf-first.false t.0 strict _ c.refuse-else-lax.ensures
