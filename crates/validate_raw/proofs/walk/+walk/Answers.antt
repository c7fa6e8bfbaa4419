-- The cycle of calls: each goal is answered by a law. `a` are the arguments, and `c-x` is what is known of x: a call, or a test.
use Prim.Native.Nat.{ℕ, ◌+◌, ◌-◌}
use native.Mathlib.Omega.{arith}
use native.Mathlib.Nat.{pos_of_ne-zero}
use mathlib.Core.Path.{refl, sym, subst, ◌∙◌}
use lib.ListN.{length}
use lib.Seq.{length-take-le, take_all}
use lib.Dec.{T}
use Rattle.meaning.specs.declared.Order.TheVariants.{Little}
use Rattle.meaning.specs.Places.{list_of}
use Rattle.meaning.specs.ReadValue.{base_r, read, read_var}
use Rattle.meaning.specs.Writers.{is_alignment}
use Rattle.meaning.proofs.PlaceLaws.{start, start-entry, go-loose, go-value, is-struct, is-loose, in_entry}
use Rattle.meaning.proofs.Passing.{handed-on}
use Rattle.meaning.proofs.ValueLocal.{base_r-local}
use Rattle.types.proofs.CodeLaws.{align-struct, struct-aligns}
use Rattle.util.proofs.Windows.{reached-within}
use Rattle.util.proofs.Pads.{padded-within}
use Rattle.basic.proofs.spelled.SpellLaws.{inner-at, inner-shut}
use Rattle.basic.proofs.LoopLaws.{began}
use Rattle.validate_raw.specs.Items.{item_of}
use Rattle.validate_raw.proofs.first_bytes.ElementLaws.{element-alignment, holding}
use Rattle.validate_raw.proofs.first_bytes.ItemLaws.{items_at, items-typed, items-from}
use Rattle.validate_raw.specs.Walk.{item_r}
use Rattle.validate_raw.proofs.walk.WalkLaws.{goes-past, goes-no, past_next, items-read, variant-deep, variant_shut, variant-past, variant-stop}
use Rattle.validate_raw.proofs.walk.CycleLaws.{variant-falls, part-fits, item-local, item-grows, value-moved, walk-moved}
use Rattle.validate_raw.proofs.walk.CycleLaws.{base-walks, variant-walks, front-basics, basics-walk, base-code, single-walks}
use Rattle.validate_raw.proofs.walk.CycleLaws.{items-turned, items_refused, items-ended, items-none, struct-stop, struct_fields}
use Rattle.validate_raw.proofs.walk.CycleLaws.{rest-start, rest-close, rest_typed, rest-past, rest-stop}
use Rattle.validate_raw.proofs.walk.CycleLaws.{opened-within, array-shut, array-elements, array_plain, array-ragged, entry-stop, entry_key, entry_past, entry_value}
use Rattle.validate_raw.proofs.walk.+walk.Goals as goal

pub array-element_place-i-requires : goal.array-element_place-i-requires
array-element_place-i-requires t c = c.requires.holds_items.typed

pub array-bounds-sig-i : goal.array-bounds-sig-i
array-bounds-sig-i t c =
    let c-pre = c.requires in
    let c-element-place = c.element_place-i in
    let y = c-pre.holds_items in
    let holds = holding y.composed y.no-struct y.no_variant in
    let items = items-typed y.typed c-element-place.ensures holds in
    start items

pub array-opening-requires : goal.array-opening-requires
array-opening-requires t c =
    let c-pre = c.requires in
    let c-element-place = c.element_place-i in
    let c-element-align = c.element_align-align in
    let y = c-pre.holds_items in
    let holds = holding y.composed y.no-struct y.no_variant in
    let items = items-typed y.typed c-element-place.ensures holds in
    record { inside = c-pre.inside; alignment = subst (λ (x : ℕ). T (is_alignment x)) (sym c-element-align.ensures) (element-alignment items.stands) }

pub array-overflow_add-stop : goal.array-overflow_add-stop
array-overflow_add-stop t c =
    let a = c.args in
    let c-pre = c.requires in
    let c-opening = c.opening in
    let w = opened-within a.order a.left.levels a.buf.now a.at.buf.0 c-pre.inside _ _ _ c-opening.ensures c.in_ok-first.was in
    omega (arith, w.1)

pub array-elements-requires : goal.array-elements-requires
array-elements-requires t c =
    let a = c.args in
    let c-pre = c.requires in
    let c-element-place = c.element_place-i in
    let c-opening = c.opening in
    let y = c-pre.holds_items in
    let holds = holding y.composed y.no-struct y.no_variant in
    let items = items-typed y.typed c-element-place.ensures holds in
    let w = opened-within a.order a.left.levels a.buf.now a.at.buf.0 c-pre.inside _ _ _ c-opening.ensures c.in_ok-first.was in
    let part = c.in_ok-first.field-0 in
    let lent = length-take-le (part.0.0 + part.1.0) a.buf.now w.1 in
    let from = items-from a.sig.now a.at.sig.0 c-element-place.ensures holds in
    (omega (arith, w.0, w.1, lent, from, start items, c.decreases), (items, omega (arith, lent)))

pub array-overflow_add-result : goal.array-overflow_add-result
array-overflow_add-result t c =
    let c-pre = c.requires in
    let c-element-place = c.element_place-i in
    let y = c-pre.holds_items in
    let holds = holding y.composed y.no-struct y.no_variant in
    let items = items-typed y.typed c-element-place.ensures holds in
    omega (arith, start items)

pub array-returns-then-size-eq0 : goal.array-returns-then-size-eq0
array-returns-then-size-eq0 t c =
    let a = c.args in
    let c-pre = c.requires in
    let c-element-place = c.element_place-i in
    let c-opening = c.opening in
    let c-element-align = c.element_align-align in
    let c-whole = c.whole-size in
    let c-if1 = c.if-size-eq0 in
    let c-elements = c.elements in
    let y = c-pre.holds_items in
    let holds = holding y.composed y.no-struct y.no_variant in
    λ u e h.
    let i = items_at h c-element-place.ensures holds in
    items-read a.order (read_var a.order a.left.levels) a.buf.now a.at.buf.0 u i.of e _ i.holds
    (array-elements a.order a.left.levels a.buf.now a.at.buf.0 c-pre.inside _ _ c-opening.ensures a.sig.now _
    c-element-align.ensures i.of e i.stands _ _ c.in_ok-first.was c-whole.ensures _ c-if1.true (c-elements.ensures i.of e i.stands))

pub array-returns-then-long-size-eq0 : goal.array-returns-then-long-size-eq0
array-returns-then-long-size-eq0 t c =
    let a = c.args in
    let c-pre = c.requires in
    let c-element-place = c.element_place-i in
    let c-opening = c.opening in
    let c-element-align = c.element_align-align in
    let c-whole = c.whole-size in
    let c-if1 = c.if-size-eq0 in
    let c-if2 = c.if-long-size-eq0 in
    let y = c-pre.holds_items in
    let holds = holding y.composed y.no-struct y.no_variant in
    λ u e h.
    let i = items_at h c-element-place.ensures holds in
    items-read a.order (read_var a.order a.left.levels) a.buf.now a.at.buf.0 u i.of e _ i.holds
    (array_plain a.order a.left.levels a.buf.now a.at.buf.0 c-pre.inside _ _ c-opening.ensures a.sig.now _
    c-element-align.ensures i.of e i.stands _ _ c.in_ok-first.was c-whole.ensures c-if1.false c-if2.true)

pub array-returns-else-long-size-eq0 : goal.array-returns-else-long-size-eq0
array-returns-else-long-size-eq0 t c =
    let a = c.args in
    let c-pre = c.requires in
    let c-element-place = c.element_place-i in
    let c-opening = c.opening in
    let c-element-align = c.element_align-align in
    let c-whole = c.whole-size in
    let c-if1 = c.if-size-eq0 in
    let c-if2 = c.if-long-size-eq0 in
    let c-refuse = c.refuse in
    let y = c-pre.holds_items in
    let holds = holding y.composed y.no-struct y.no_variant in
    λ u e h.
    let i = items_at h c-element-place.ensures holds in
    items-read a.order (read_var a.order a.left.levels) a.buf.now a.at.buf.0 u i.of e _ i.holds
    (array-ragged a.order a.left.levels a.buf.now a.at.buf.0 c-pre.inside _ _ c-opening.ensures a.sig.now _
    c-element-align.ensures i.of e i.stands _ _ c.in_ok-first.was c-whole.ensures _ c-if1.false c-if2.false c-refuse.ensures)

pub array-returns-in_err-first : goal.array-returns-in_err-first
array-returns-in_err-first t c =
    let a = c.args in
    let c-pre = c.requires in
    let c-element-place = c.element_place-i in
    let c-opening = c.opening in
    let c-element-align = c.element_align-align in
    let y = c-pre.holds_items in
    let holds = holding y.composed y.no-struct y.no_variant in
    λ u e h.
    let i = items_at h c-element-place.ensures holds in
    handed-on _ _ c.from_residual.ensures
    ∙ items-read a.order (read_var a.order a.left.levels) a.buf.now a.at.buf.0 u i.of e _ i.holds
    (array-shut a.order a.left.levels a.buf.now a.at.buf.0 c-pre.inside _ _ c-opening.ensures a.sig.now _
    c-element-align.ensures i.of e i.stands _ c.in_err-first.was)

pub composites-skip-requires : goal.composites-skip-requires
composites-skip-requires t c = c.requires.typed

pub composites-returns-then-first-buf : goal.composites-returns-then-first-buf
composites-returns-then-first-buf t c =
    let a = c.args in
    let c-pre = c.requires in
    let c-if1 = c.if-first-buf in
    let c-skip = c.skip in
    λ u e h. items-none a.order a.left.levels (item_of u) a.buf.now (length a.buf.now - a.at.buf.0) a.at.buf.0 e
    _ refl c-if1.true (c-skip.ensures u e h)

pub composites-loop-past-init : goal.composites-loop-past-init
composites-loop-past-init t c =
    let a = c.args in
    let c-pre = c.requires in (
      omega arith,
      c-pre.inside,
      λ u e h. (
        began (item_r a.order (read_var a.order a.left.levels) (item_of u))
            (item-local a.order a.left.levels (item_of u)) (item-grows a.order a.left.levels (item_of u)) a.buf.now _ c-pre.inside,
        λ z. absurd (z refl),
      ),
    )

pub composites-element-requires : goal.composites-element-requires
composites-element-requires t c =
    let c-loop = c.loop-past in
    let c-pre = c.requires in
    (omega (arith, c-loop.invariant.0, c-loop.invariant.1, c.decreases), (c-pre.typed, c-loop.invariant.1))

pub composites-loop-past-smaller : goal.composites-loop-past-smaller
composites-loop-past-smaller t c =
    let a = c.args in
    let c-pre = c.requires in
    let c-loop = c.loop-past in
    let c-element = c.element in
    let y = c-pre.typed in
    let i = item_of y.ty in
    let m = walk-moved (item_r a.order (read_var a.order a.left.levels) i)
    (item-local a.order a.left.levels i) (item-grows a.order a.left.levels i) a.buf.now
    _ y.next _ _ c-loop.invariant.1 (c-element.ensures y.ty y.next y.stands) c.in_ok-past.was in
    omega (arith, m.0, m.1)

pub composites-loop-past-preserved : goal.composites-loop-past-preserved
composites-loop-past-preserved t c =
    let a = c.args in
    let c-pre = c.requires in
    let c-loop = c.loop-past in
    let c-element = c.element in
    let c-loop-test = c.loop-past-test in
    let y = c-pre.typed in
    let i = item_of y.ty in
    let m = walk-moved (item_r a.order (read_var a.order a.left.levels) i)
    (item-local a.order a.left.levels i) (item-grows a.order a.left.levels i) a.buf.now
    _ y.next _ _ c-loop.invariant.1 (c-element.ensures y.ty y.next y.stands) c.in_ok-past.was in (
      omega (arith, c-loop.invariant.0, m.0),
      m.1,
      λ u e h.
          let x = items-turned a.order a.left.levels (item_of u) a.buf.now (length a.buf.now - a.at.buf.0) a.at.buf.0 e
          _ (c-loop.invariant.2 u e h).0 _ _ (omega (arith, c-loop-test.true)) (c-element.ensures u e h) c.in_ok-past.was in
          (x.0, λ z. x.1),
    )

pub composites-returns-in_err-past : goal.composites-returns-in_err-past
composites-returns-in_err-past t c =
    let a = c.args in
    let c-pre = c.requires in
    let c-loop = c.loop-past in
    let c-loop-test = c.loop-past-test in
    let c-element = c.element in
    λ u e h. handed-on _ _ c.from_residual.ensures ∙ items_refused a.order a.left.levels (item_of u) a.buf.now (length a.buf.now - a.at.buf.0) a.at.buf.0 e
    _ (c-loop.invariant.2 u e h).0 _ _ (omega (arith, c-loop-test.true)) (c-element.ensures u e h) c.in_err-past.was

pub composites-returns : goal.composites-returns
composites-returns t c =
    let a = c.args in
    let c-pre = c.requires in
    let c-loop = c.loop-past in
    let c-loop-test = c.loop-past-test in
    let c-if1 = c.if-first-buf in
    λ u e h. items-ended a.order a.left.levels (item_of u) a.buf.now (length a.buf.now - a.at.buf.0) a.at.buf.0 e
    _ (c-loop.invariant.2 u e h).0 _ _ (omega (arith, c-loop-test.false))
    ((c-loop.invariant.2 u e h).1 (λ z. c-if1.false (omega (arith, z, c-loop.invariant.1, c-loop-test.false, c-pre.inside))))
    (omega (arith, c-loop.invariant.1, c-loop-test.false))

pub element-bounds-sig-i : goal.element-bounds-sig-i
element-bounds-sig-i t c = start c.requires.typed

pub element-entry-requires : goal.element-entry-requires
element-entry-requires t c =
    let c-pre = c.requires in
    let c-if1 = c.if-sig-i-eq123 in
    (omega (arith, c.decreases), (c-pre.typed, (c-if1.true, c-pre.inside)))

pub element-value-requires : goal.element-value-requires
element-value-requires t c =
    let c-pre = c.requires in
    (omega (arith, c.decreases), (c-pre.typed, c-pre.inside))

pub element-returns-then-sig-i-eq123 : goal.element-returns-then-sig-i-eq123
element-returns-then-sig-i-eq123 t c = c.entry.ensures

pub element-returns-else-sig-i-eq123 : goal.element-returns-else-sig-i-eq123
element-returns-else-sig-i-eq123 t c =
    let a = c.args in
    let c-if1 = c.if-sig-i-eq123 in
    let c-value = c.value in
    λ u e h. single-walks a.order a.left.levels a.sig.now a.buf.now a.at.sig.0 a.at.buf.0 _ c-if1.false u e h (c-value.ensures u e h)

pub elements-bounds-sig-i : goal.elements-bounds-sig-i
elements-bounds-sig-i t c = start c.requires.typed

pub elements-composites-requires : goal.elements-composites-requires
elements-composites-requires t c =
    let c-pre = c.requires in
    (omega (arith, c.decreases), (c-pre.typed, c-pre.inside))

pub elements-basics-requires : goal.elements-basics-requires
elements-basics-requires t c =
    let c-pre = c.requires in
    let c-is-composite = c.is_composite in
    let c-if1 = c.if-is_composite in
    record { base_code = base-code c-pre.typed (sym c-is-composite.ensures ∙ c-if1.false); inside = omega (arith, c-pre.inside) }

pub elements-overflow_add-result : goal.elements-overflow_add-result
elements-overflow_add-result t c = omega (arith, start c.requires.typed)

pub elements-returns-then-is_composite : goal.elements-returns-then-is_composite
elements-returns-then-is_composite t c = c.composites.ensures

pub elements-returns-in_ok-past : goal.elements-returns-in_ok-past
elements-returns-in_ok-past t c =
    let a = c.args in
    let c-is-composite = c.is_composite in
    let c-if1 = c.if-is_composite in
    let c-basics = c.basics in
    let other = sym c-is-composite.ensures ∙ c-if1.false in
    let first = a.at.buf.0 in
    let read = front-basics a.order _ _ a.buf.now first _ c-basics.ensures
    (omega arith) (grind (arith, take_all)) in
    let walks = basics-walk a.order a.left.levels a.sig.now a.buf.now a.at.sig.0 first _ (length a.buf.now - first) other read in
    λ u e h. goes-past _ _ _ c.in_ok-past.was ∙ walks u e h

pub elements-returns-in_err-past : goal.elements-returns-in_err-past
elements-returns-in_err-past t c =
    let a = c.args in
    let c-is-composite = c.is_composite in
    let c-if1 = c.if-is_composite in
    let c-basics = c.basics in
    let other = sym c-is-composite.ensures ∙ c-if1.false in
    let first = a.at.buf.0 in
    let read = front-basics a.order _ _ a.buf.now first _ c-basics.ensures
    (omega arith) (grind (arith, take_all)) in
    let walks = basics-walk a.order a.left.levels a.sig.now a.buf.now a.at.sig.0 first _ (length a.buf.now - first) other read in
    λ u e h. handed-on _ _ c.from_residual.ensures ∙ goes-no _ _ _ c.in_err-past.was ∙ walks u e h

pub entry-overflow_add-key : goal.entry-overflow_add-key
entry-overflow_add-key t c =
    let c-pre = c.requires in
    let typed = go-loose c-pre.typed c-pre.bracket in
    omega (arith, (start-entry typed).0)

pub entry-padded-requires : goal.entry-padded-requires
entry-padded-requires t c =
    let c-pre = c.requires in
    let c-align = c.align in
    record { inside = c-pre.inside; alignment = struct-aligns c-align.ensures }

pub entry-bounds-sig-key : goal.entry-bounds-sig-key
entry-bounds-sig-key t c =
    let c-pre = c.requires in
    let typed = go-loose c-pre.typed c-pre.bracket in
    (start-entry typed).0

pub entry-base-requires : goal.entry-base-requires
entry-base-requires t c =
    let c-pre = c.requires in
    let c-padded = c.padded in
    let typed = go-loose c-pre.typed c-pre.bracket in
    let w = c-pre.inside in
    let r = padded-within _ _ _ _ _ w c-padded.ensures c.in_ok-start.was in
    record { base_code = record { of = typed.key; is = (in_entry typed.stands).byte }; inside = r.1 }

pub entry-overflow_add-held : goal.entry-overflow_add-held
entry-overflow_add-held t c =
    let c-pre = c.requires in
    let typed = go-loose c-pre.typed c-pre.bracket in
    omega (arith, (start-entry typed).1)

pub entry-value-requires : goal.entry-value-requires
entry-value-requires t c =
    let a = c.args in
    let c-pre = c.requires in
    let c-padded = c.padded in
    let c-base = c.base in
    let typed = go-loose c-pre.typed c-pre.bracket in
    let w = c-pre.inside in
    let r = padded-within _ _ _ _ _ w c-padded.ensures c.in_ok-start.was in
    let read = sym c.in_ok-base.was ∙ c-base.ensures typed.key (in_entry typed.stands).byte in
    let v = reached-within (base_r a.order typed.key) (base_r-local a.order typed.key).bound a.buf.now _ _ r.1 read in
    (omega (arith, (start-entry typed).1, r.0, v.0, v.1, c.decreases), (go-value typed, v.1))

pub entry-overflow_add-result : goal.entry-overflow_add-result
entry-overflow_add-result t c =
    let a = c.args in
    let c-pre = c.requires in
    let c-value = c.value in
    let c-good = c.well_formed in
    let typed = go-loose c-pre.typed c-pre.bracket in
    let y = in_entry typed.stands in
    let reads = read a.order (read_var a.order a.left.levels) typed.ty a.buf.now in
    let z = past_next _ _ _ (reads c.in_ok-base.field-0.0) (c-value.ensures _ _ y.stands) c.in_ok-past.was in
    omega (arith, z, y.inside, c-good.1.0)

pub entry-returns : goal.entry-returns
entry-returns t c =
    let a = c.args in
    let c-align = c.align in
    let c-pre = c.requires in
    let c-padded = c.padded in
    let c-base = c.base in
    let c-value = c.value in
    let eight = c-align.ensures ∙ align-struct in
    λ u e h.
    let d = is-loose h c-pre.bracket in
    let y = in_entry d.stands in
    entry_past a.order a.left.levels u d.key d.value d.is a.buf.now a.at.buf.0 e _ eight
    _ (sym c-padded.ensures ∙ c.in_ok-start.was) _ (sym (c-base.ensures d.key y.byte) ∙ c.in_ok-base.was)
    _ _ (c-value.ensures d.value _ y.stands) _ c.in_ok-past.was y.ends

pub entry-returns-in_err-past : goal.entry-returns-in_err-past
entry-returns-in_err-past t c =
    let a = c.args in
    let c-align = c.align in
    let c-pre = c.requires in
    let c-padded = c.padded in
    let c-base = c.base in
    let c-value = c.value in
    let eight = c-align.ensures ∙ align-struct in
    λ u e h.
    let d = is-loose h c-pre.bracket in
    let y = in_entry d.stands in
    handed-on _ _ c.from_residual-in_err-past.ensures
    ∙ entry_value a.order a.left.levels u d.key d.value d.is a.buf.now a.at.buf.0 e _ eight
    _ (sym c-padded.ensures ∙ c.in_ok-start.was) _ (sym (c-base.ensures d.key y.byte) ∙ c.in_ok-base.was)
    _ _ (c-value.ensures d.value _ y.stands) _ c.in_err-past.was

pub entry-returns-in_err-base : goal.entry-returns-in_err-base
entry-returns-in_err-base t c =
    let a = c.args in
    let c-align = c.align in
    let c-pre = c.requires in
    let c-padded = c.padded in
    let c-base = c.base in
    let eight = c-align.ensures ∙ align-struct in
    λ u e h.
    let d = is-loose h c-pre.bracket in
    let y = in_entry d.stands in
    handed-on _ _ c.from_residual-in_err-base.ensures
    ∙ entry_key a.order a.left.levels u d.key d.value d.is a.buf.now a.at.buf.0 e _ eight
    _ (sym c-padded.ensures ∙ c.in_ok-start.was) _ (sym (c-base.ensures d.key y.byte) ∙ c.in_err-base.was)

pub entry-returns-in_err-start : goal.entry-returns-in_err-start
entry-returns-in_err-start t c =
    let a = c.args in
    let c-align = c.align in
    let c-pre = c.requires in
    let c-padded = c.padded in
    let eight = c-align.ensures ∙ align-struct in
    λ u e h.
    let d = is-loose h c-pre.bracket in
    handed-on _ _ c.from_residual.ensures
    ∙ entry-stop a.order a.left.levels u d.key d.value d.is a.buf.now a.at.buf.0 e _ eight _ (sym c-padded.ensures ∙ c.in_err-start.was)

pub fields-loop-order-init : goal.fields-loop-order-init
fields-loop-order-init t c = (omega arith, omega arith, c.requires.inside, λ ts e h. record { tys = ts; stands = h; answers = refl })

pub fields-bounds-sig-i : goal.fields-bounds-sig-i
fields-bounds-sig-i t c =
    let c-pre = c.requires in
    let c-loop = c.loop-order in
    let y = c-pre.fields_typed in
    let rest = c-loop.invariant.3 y.tys y.next y.stands in
    rest-start _ _ _ _ _ _ rest

pub fields-overflow_add-result : goal.fields-overflow_add-result
fields-overflow_add-result t c =
    let c-pre = c.requires in
    let c-loop = c.loop-order in
    let y = c-pre.fields_typed in
    let rest = c-loop.invariant.3 y.tys y.next y.stands in
    omega (arith, rest-start _ _ _ _ _ _ rest)

pub fields-returns-then-k-eq41 : goal.fields-returns-then-k-eq41
fields-returns-then-k-eq41 t c =
    let c-loop = c.loop-order in
    let c-if1 = c.if-k-eq41 in
    λ ts e h. rest-close _ _ _ _ _ _ (c-loop.invariant.3 ts e h) c-if1.true

pub fields-value-requires : goal.fields-value-requires
fields-value-requires t c =
    let c-pre = c.requires in
    let c-loop = c.loop-order in
    let c-if1 = c.if-k-eq41 in
    let y = c-pre.fields_typed in
    let rest = c-loop.invariant.3 y.tys y.next y.stands in (omega (arith, rest-start _ _ _ _ _ _ rest, c-loop.invariant.0, c-loop.invariant.1, c-loop.invariant.2, c.decreases), (rest_typed _ _ _ _ _ _ rest c-if1.false, c-loop.invariant.2))

pub fields-loop-order-smaller-then-is_composite : goal.fields-loop-order-smaller-then-is_composite
fields-loop-order-smaller-then-is_composite t c =
    let c-pre = c.requires in
    let c-loop = c.loop-order in
    let c-if1 = c.if-k-eq41 in
    let c-value = c.value in
    let y = c-pre.fields_typed in
    let rest = c-loop.invariant.3 y.tys y.next y.stands in
    let x = rest-past _ _ _ _ _ _ rest c-if1.false _ c-value.ensures _ c.in_ok-here.was in
    omega (arith, x.0, rest-start _ _ _ _ _ _ rest)

pub fields-loop-order-preserved-then-is_composite : goal.fields-loop-order-preserved-then-is_composite
fields-loop-order-preserved-then-is_composite t c =
    let a = c.args in
    let c-pre = c.requires in
    let c-loop = c.loop-order in
    let c-if1 = c.if-k-eq41 in
    let c-value = c.value in
    let y = c-pre.fields_typed in
    let rest = c-loop.invariant.3 y.tys y.next y.stands in
    let x = rest-past _ _ _ _ _ _ rest c-if1.false _ c-value.ensures _ c.in_ok-here.was in
    let typed = rest_typed _ _ _ _ _ _ rest c-if1.false in
    let m = value-moved a.order a.left.levels a.sig.now a.buf.now _ _ _ _ typed c-value.ensures c-loop.invariant.2 c.in_ok-here.was in (
      omega (arith, x.0, c-loop.invariant.0),
      omega (arith, m.0, c-loop.invariant.1),
      m.1,
      λ ts e h. (rest-past _ _ _ _ _ _ (c-loop.invariant.3 ts e h) c-if1.false _ c-value.ensures _ c.in_ok-here.was).1,
    )

pub fields-returns-in_err-here : goal.fields-returns-in_err-here
fields-returns-in_err-here t c =
    let c-loop = c.loop-order in
    let c-if1 = c.if-k-eq41 in
    let c-value = c.value in
    λ ts e h. handed-on _ _ c.from_residual.ensures ∙ rest-stop _ _ _ _ _ _ (c-loop.invariant.3 ts e h) c-if1.false _ c-value.ensures _ c.in_err-here.was

pub fields-base-requires : goal.fields-base-requires
fields-base-requires t c =
    let c-pre = c.requires in
    let c-loop = c.loop-order in
    let c-is-composite = c.is_composite in
    let c-if2 = c.if-is_composite in
    let c-if1 = c.if-k-eq41 in
    let y = c-pre.fields_typed in
    let rest = c-loop.invariant.3 y.tys y.next y.stands in
    let other = sym c-is-composite.ensures ∙ c-if2.false in
    record { base_code = base-code (rest_typed _ _ _ _ _ _ rest c-if1.false) other; inside = c-loop.invariant.2 }

pub fields-overflow_add-here : goal.fields-overflow_add-here
fields-overflow_add-here t c =
    let c-pre = c.requires in
    let c-loop = c.loop-order in
    let y = c-pre.fields_typed in
    let rest = c-loop.invariant.3 y.tys y.next y.stands in
    omega (arith, rest-start _ _ _ _ _ _ rest)

pub fields-loop-order-smaller : goal.fields-loop-order-smaller
fields-loop-order-smaller t c =
    let a = c.args in
    let c-pre = c.requires in
    let c-loop = c.loop-order in
    let c-is-composite = c.is_composite in
    let c-if2 = c.if-is_composite in
    let c-base = c.base in
    let c-if1 = c.if-k-eq41 in
    let y = c-pre.fields_typed in
    let rest = c-loop.invariant.3 y.tys y.next y.stands in
    let other = sym c-is-composite.ensures ∙ c-if2.false in
    let walks = base-walks a.order a.left.levels a.sig.now a.buf.now _ _ _ other c-base.ensures in
    let x = rest-past _ _ _ _ _ _ rest c-if1.false _ walks _ (sym (goes-past _ _ _ c.in_ok-here-2.was)) in
    omega (arith, x.0, rest-start _ _ _ _ _ _ rest)

pub fields-loop-order-preserved : goal.fields-loop-order-preserved
fields-loop-order-preserved t c =
    let a = c.args in
    let c-pre = c.requires in
    let c-loop = c.loop-order in
    let c-is-composite = c.is_composite in
    let c-if2 = c.if-is_composite in
    let c-base = c.base in
    let c-if1 = c.if-k-eq41 in
    let y = c-pre.fields_typed in
    let rest = c-loop.invariant.3 y.tys y.next y.stands in
    let other = sym c-is-composite.ensures ∙ c-if2.false in
    let walks = base-walks a.order a.left.levels a.sig.now a.buf.now _ _ _ other c-base.ensures in
    let typed = rest_typed _ _ _ _ _ _ rest c-if1.false in
    let past = sym (goes-past _ _ _ c.in_ok-here-2.was) in
    let m = value-moved a.order a.left.levels a.sig.now a.buf.now _ _ _ _ typed walks c-loop.invariant.2 past in (
      omega (arith, c-loop.invariant.0),
      omega (arith, m.0, c-loop.invariant.1),
      m.1,
      λ ts e h. (rest-past _ _ _ _ _ _ (c-loop.invariant.3 ts e h) c-if1.false _ walks _ past).1,
    )

pub fields-returns-in_err-here-2 : goal.fields-returns-in_err-here-2
fields-returns-in_err-here-2 t c =
    let a = c.args in
    let c-is-composite = c.is_composite in
    let c-if2 = c.if-is_composite in
    let c-base = c.base in
    let c-loop = c.loop-order in
    let c-if1 = c.if-k-eq41 in
    let other = sym c-is-composite.ensures ∙ c-if2.false in
    let walks = base-walks a.order a.left.levels a.sig.now a.buf.now _ _ _ other c-base.ensures in
    λ ts e h. handed-on _ _ c.from_residual-in_err-here-2.ensures ∙ rest-stop _ _ _ _ _ _ (c-loop.invariant.3 ts e h) c-if1.false _ walks _ (sym (goes-no _ _ _ c.in_err-here-2.was))

pub structure-padded-requires : goal.structure-padded-requires
structure-padded-requires t c =
    let c-pre = c.requires in
    let c-align = c.align in
    record { inside = c-pre.inside; alignment = struct-aligns c-align.ensures }

pub structure-overflow_add-inside : goal.structure-overflow_add-inside
structure-overflow_add-inside t c = omega (arith, start c.requires.typed)

pub structure-fields-requires : goal.structure-fields-requires
structure-fields-requires t c =
    let c-pre = c.requires in
    let c-padded = c.padded in
    let typed = c-pre.typed in
    let w = c-pre.inside in
    let r = padded-within _ _ _ _ _ w c-padded.ensures c.in_ok-padded.was in
    let s = is-struct typed.stands c-pre.bracket in (omega (arith, start typed, r.0, r.1, c.decreases), (record { tys = list_of s.fields; next = typed.next; stands = s.stands }, r.1))

pub structure-returns : goal.structure-returns
structure-returns t c =
    let a = c.args in
    let c-align = c.align in
    let c-pre = c.requires in
    let c-padded = c.padded in
    let c-fields = c.fields in
    let eight = c-align.ensures ∙ align-struct in
    λ u e h.
    let s = is-struct h c-pre.bracket in
    struct_fields a.order (read_var a.order a.left.levels) a.buf.now u s.fields s.is a.at.buf.0 e _ eight _ _
    (sym c-padded.ensures ∙ c.in_ok-padded.was) (c-fields.ensures (list_of s.fields) e s.stands)

pub structure-returns-in_err-padded : goal.structure-returns-in_err-padded
structure-returns-in_err-padded t c =
    let a = c.args in
    let c-align = c.align in
    let c-pre = c.requires in
    let c-padded = c.padded in
    let eight = c-align.ensures ∙ align-struct in
    λ u e h.
    let s = is-struct h c-pre.bracket in
    handed-on _ _ c.from_residual.ensures
    ∙ struct-stop a.order (read_var a.order a.left.levels) a.buf.now u s.fields s.is a.at.buf.0 e _ eight _
    (sym c-padded.ensures ∙ c.in_err-padded.was)

pub value-bounds-sig-i : goal.value-bounds-sig-i
value-bounds-sig-i t c = start c.requires.typed

pub value-structure-requires : goal.value-structure-requires
value-structure-requires t c =
    let c-pre = c.requires in
    let c-if1 = c.if-k-eq40 in
    (omega (arith, c.decreases), (c-pre.typed, (c-if1.true, c-pre.inside)))

pub value-variant-requires : goal.value-variant-requires
value-variant-requires t c =
    let c-pre = c.requires in
    (omega (arith, c.decreases), c-pre.inside)

pub value-overflow_add-result : goal.value-overflow_add-result
value-overflow_add-result t c = omega (arith, start c.requires.typed)

pub value-array-requires : goal.value-array-requires
value-array-requires t c =
    let c-is-composite = c.is_composite in
    let c-if3 = c.if-is_composite in
    let c-pre = c.requires in
    let c-if1 = c.if-k-eq40 in
    let c-if2 = c.if-k-eq118 in
    let composed = sym c-is-composite.ensures ∙ c-if3.true in
    (omega (arith, c.decreases), (record { typed = c-pre.typed; composed = composed; no-struct = c-if1.false; no_variant = c-if2.false }, c-pre.inside))

pub value-base-requires : goal.value-base-requires
value-base-requires t c =
    let c-pre = c.requires in
    let c-is-composite = c.is_composite in
    let c-if3 = c.if-is_composite in
    record { base_code = base-code c-pre.typed (sym c-is-composite.ensures ∙ c-if3.false); inside = c-pre.inside }

pub value-overflow_add-result-else-is_composite : goal.value-overflow_add-result-else-is_composite
value-overflow_add-result-else-is_composite t c = omega (arith, start c.requires.typed)

pub value-returns-then-k-eq40 : goal.value-returns-then-k-eq40
value-returns-then-k-eq40 t c = c.structure.ensures

pub value-returns-in_ok-past : goal.value-returns-in_ok-past
value-returns-in_ok-past t c =
    let a = c.args in
    let c-if2 = c.if-k-eq118 in
    let c-variant = c.variant in
    let walks = variant-walks a.order a.left.levels a.sig.now a.buf.now a.at.sig.0 a.at.buf.0 _ c-if2.true c-variant.ensures in
    λ u e h. goes-past _ _ _ c.in_ok-past.was ∙ walks u e h

pub value-returns-in_err-past : goal.value-returns-in_err-past
value-returns-in_err-past t c =
    let a = c.args in
    let c-if2 = c.if-k-eq118 in
    let c-variant = c.variant in
    let walks = variant-walks a.order a.left.levels a.sig.now a.buf.now a.at.sig.0 a.at.buf.0 _ c-if2.true c-variant.ensures in
    λ u e h. handed-on _ _ c.from_residual.ensures ∙ goes-no _ _ _ c.in_err-past.was ∙ walks u e h

pub value-returns-then-is_composite : goal.value-returns-then-is_composite
value-returns-then-is_composite t c = c.array.ensures

pub value-returns-in_ok-past-2 : goal.value-returns-in_ok-past-2
value-returns-in_ok-past-2 t c =
    let a = c.args in
    let c-is-composite = c.is_composite in
    let c-if3 = c.if-is_composite in
    let c-base = c.base in
    let other = sym c-is-composite.ensures ∙ c-if3.false in
    let walks = base-walks a.order a.left.levels a.sig.now a.buf.now a.at.sig.0 a.at.buf.0 _ other c-base.ensures in
    λ u e h. goes-past _ _ _ c.in_ok-past-2.was ∙ walks u e h

pub value-returns-in_err-past-2 : goal.value-returns-in_err-past-2
value-returns-in_err-past-2 t c =
    let a = c.args in
    let c-is-composite = c.is_composite in
    let c-if3 = c.if-is_composite in
    let c-base = c.base in
    let other = sym c-is-composite.ensures ∙ c-if3.false in
    let walks = base-walks a.order a.left.levels a.sig.now a.buf.now a.at.sig.0 a.at.buf.0 _ other c-base.ensures in
    λ u e h. handed-on _ _ c.from_residual-in_err-past-2.ensures ∙ goes-no _ _ _ c.in_err-past-2.was ∙ walks u e h

pub variant-returns-then-levels-eq0 : goal.variant-returns-then-levels-eq0
variant-returns-then-levels-eq0 t c =
    let a = c.args in
    let c-if1 = c.if-levels-eq0 in
    let c-refuse = c.refuse in
    variant-deep a.order a.buf.now a.off a.left.levels _ c-if1.true c-refuse.ensures

pub variant-inner-requires : goal.variant-inner-requires
variant-inner-requires t c = c.requires

pub variant-overflow_add-stop : goal.variant-overflow_add-stop
variant-overflow_add-stop t c =
    let a = c.args in
    let c-pre = c.requires in
    let c-inner = c.inner in
    let i = inner-at Little a.buf.now a.off c-pre _ (c-inner.ensures _) _ c.in_ok-first.was in
    omega (arith, i.within)

pub variant-overflow_add-inside : goal.variant-overflow_add-inside
variant-overflow_add-inside t c =
    let a = c.args in
    let c-pre = c.requires in
    let c-inner = c.inner in
    let i = inner-at Little a.buf.now a.off c-pre _ (c-inner.ensures _) _ c.in_ok-first.was in
    omega (arith, i.within)

pub variant-slice_bounds-value-count : goal.variant-slice_bounds-value-count
variant-slice_bounds-value-count t c =
    let a = c.args in
    let c-pre = c.requires in
    let c-inner = c.inner in
    let i = inner-at Little a.buf.now a.off c-pre _ (c-inner.ensures _) _ c.in_ok-first.was in
    omega arith

pub variant-slice_bounds-value-start : goal.variant-slice_bounds-value-start
variant-slice_bounds-value-start t c =
    let a = c.args in
    let c-pre = c.requires in
    let c-inner = c.inner in
    let i = inner-at Little a.buf.now a.off c-pre _ (c-inner.ensures _) _ c.in_ok-first.was in
    omega arith

pub variant-slice_bounds-value-end : goal.variant-slice_bounds-value-end
variant-slice_bounds-value-end t c =
    let a = c.args in
    let c-pre = c.requires in
    let c-inner = c.inner in
    let i = inner-at Little a.buf.now a.off c-pre _ (c-inner.ensures _) _ c.in_ok-first.was in
    omega (arith, i.within)

pub variant-overflow_sub-left : goal.variant-overflow_sub-left
variant-overflow_sub-left t c = omega (arith, pos_of_ne-zero c.if-levels-eq0.false)

pub variant-value-requires : goal.variant-value-requires
variant-value-requires t c =
    let a = c.args in
    let c-pre = c.requires in
    let c-inner = c.inner in
    let c-if1 = c.if-levels-eq0 in
    let i = inner-at Little a.buf.now a.off c-pre _ (c-inner.ensures _) _ c.in_ok-first.was in (variant-falls _ _ _ _ _ _ _ c-if1.false i.past (part-fits _ _ _) i.within c.decreases, (record { ty = i.ty; next = _; stands = i.stands }, omega (arith, i.within)))

pub variant-returns : goal.variant-returns
variant-returns t c =
    let a = c.args in
    let c-pre = c.requires in
    let c-inner = c.inner in
    let c-if1 = c.if-levels-eq0 in
    let c-value = c.value in
    let i = inner-at a.order a.buf.now a.off c-pre _ (c-inner.ensures _) _ c.in_ok-first.was in
    variant-past a.order a.buf.now a.off a.left.levels i.ty _ c-if1.false i.reads _ _
    (c-value.ensures i.ty _ i.stands) _ c.in_ok-past.was

pub variant-returns-in_err-past : goal.variant-returns-in_err-past
variant-returns-in_err-past t c =
    let a = c.args in
    let c-pre = c.requires in
    let c-inner = c.inner in
    let c-if1 = c.if-levels-eq0 in
    let c-value = c.value in
    let i = inner-at a.order a.buf.now a.off c-pre _ (c-inner.ensures _) _ c.in_ok-first.was in
    handed-on _ _ c.from_residual-in_err-past.ensures
    ∙ variant-stop a.order a.buf.now a.off a.left.levels i.ty _ c-if1.false i.reads _ _
    (c-value.ensures i.ty _ i.stands) _ c.in_err-past.was

pub variant-returns-in_err-first : goal.variant-returns-in_err-first
variant-returns-in_err-first t c =
    let a = c.args in
    let c-pre = c.requires in
    let c-inner = c.inner in
    let c-if1 = c.if-levels-eq0 in
    let none = inner-shut a.order a.buf.now a.off c-pre _ (c-inner.ensures _) _ c.in_err-first.was in
    handed-on _ _ c.from_residual.ensures
    ∙ variant_shut a.order a.buf.now a.off a.left.levels _ c-if1.false none
