use Rattle.std.proofs.Common.{◌∙◌, ◌+◌, ap, arith, drop, map, sym}
use Rattle.toml.specs.View.{items_view}
use Rattle.xb_routes.specs.declared.route.Entry.{Entry}
use Rattle.xb_routes.specs.Coded.{coded}
use Rattle.xb_outgoing.specs.Groups.{groups_from, has_group, with_group}
use Rattle.xb_outgoing.proofs.Routes.{items-end, route-differs, route-taken, route-wrong, routes-end}
use Rattle.xb_outgoing.proofs.groups.groups_of.Goals as goal

pub returns-then-place-entries-clause-ok : goal.returns-then-place-entries-clause-ok
returns-then-place-entries-clause-ok c =
    let i = c.loop-value.invariant in
    i.rest ∙ routes-end (c.loop-value.place + 1) c.loop-value.value-index c.loop-value.groups c.args.entries.now c.args.values.now
    (omega (arith, i.number, c.if-place-entries.true))

pub returns-in_default-clause-refused : goal.returns-in_default-clause-refused
returns-in_default-clause-refused c = λ other.
    let i = c.loop-value.invariant in
    i.rest ∙ route-wrong (c.loop-value.place + 1) c.loop-value.value-index c.loop-value.groups c.args.entries.now c.args.values.now
    c.index-entries-place.result c.value-item.result (omega (arith, i.number, c.if-place-entries.false))
    (rw i.number at c.index-entries-place.is) c.loop-value-test.true c.value-item.is (sym c.in_default.ensures)

pub returns-then-has_group-clause-refused : goal.returns-then-has_group-clause-refused
returns-then-has_group-clause-refused c = λ other.
    let i = c.loop-value.invariant in
    i.rest ∙ route-differs (c.loop-value.place + 1) c.loop-value.value-index c.loop-value.groups c.args.entries.now c.args.values.now
    c.index-entries-place.result c.value-item.result (omega (arith, i.number, c.if-place-entries.false))
    (rw i.number at c.index-entries-place.is) c.loop-value-test.true c.value-item.is c.in-Some.pulsed (sym c.in-Some.ensures)
    (ap (λ gs. has_group gs c.index-entries-place.result.route.trunk) (sym c.others.ensures)
    ∙ ap (λ e. has_group c.others.result.now e.route.trunk) c.index-entries-place.is ∙ sym c.has_group.ensures
    ∙ c.if-has_group.true)

pub loop-value-preserved : goal.loop-value-preserved
loop-value-preserved c =
    let i = c.loop-value.invariant in
    record {
      number = ap (λ n. n + 1) i.number;
      rest = rw c.in-Ok.ensures (i.rest ∙ route-taken (c.loop-value.place + 1) c.loop-value.value-index c.loop-value.groups c.args.entries.now
          c.args.values.now c.index-entries-place.result c.value-item.result (omega (arith, i.number, c.if-place-entries.false))
          (rw i.number at c.index-entries-place.is) c.loop-value-test.true c.value-item.is c.in-Some.pulsed (sym c.in-Some.ensures)
          (ap (λ gs. has_group gs c.index-entries-place.result.route.trunk) (sym c.others.ensures)
          ∙ ap (λ e. has_group c.others.result.now e.route.trunk) c.index-entries-place.is ∙ sym c.has_group.ensures
          ∙ c.if-has_group.false)
          ∙ ap (λ (e : Entry). groups_from (c.loop-value.place + 1 + 1) (with_group c.loop-value.groups e.route.trunk c.in-Some.pulsed)
          (map coded (drop (c.loop-value.value-index + 1) c.args.entries.now))
          (items_view (drop (c.loop-value.value-index + 1) c.args.values.now))) c.index-entries-place.is);
    }

pub returns-clause-ok : goal.returns-clause-ok
returns-clause-ok c =
    let i = c.loop-value.invariant in
    i.rest ∙ items-end (c.loop-value.place + 1) c.loop-value.value-index c.loop-value.groups c.args.entries.now c.args.values.now
    (omega (arith, c.loop-value-test.false))
