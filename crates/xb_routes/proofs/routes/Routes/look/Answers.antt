use Rattle.std.proofs.Common.{◌+◌, ◌∙◌, ap, sym, drop, map, arith}
use Rattle.std.specs.Prelude.{option_map, slice_index_or}
use Rattle.std.proofs.lemmas.List.{drop_more, drop_all, length-map}
use Rattle.xb_routes.specs.Coded.{coded, uncoded}
use Rattle.xb_routes.specs.declared.code.TheConstants.{CODE_LENGTHS}
use Rattle.xb_routes.proofs.Longest.{entry-at, left-all, left-found, left-next, left-none, place-below}
use Rattle.xb_routes.proofs.routes.Routes.look.Goals as goal

pub loop-length-init : goal.loop-length-init
loop-length-init c = rw (← c.self.view_is) (left-all c.args.digits.now (map coded c.self.inside.entries.items) c.self.invariant.lengths)

pub index-requires : goal.index-requires
index-requires c =
    let below = place-below c.args.digits.now (slice_index_or CODE_LENGTHS c.loop-length.length-index 0) c.args.self.now c.in-Some.place (sym c.in-Some.ensures) in
    omega (arith, rw (← c.self.view_is) at below, length-map c.self.inside.entries.items coded)

pub returns-in-Some : goal.returns-in-Some
returns-in-Some c =
    let n = slice_index_or CODE_LENGTHS c.loop-length.length-index 0 in
    let left = rw (drop_more CODE_LENGTHS c.loop-length.length-index 0 c.loop-length-test.true) at c.loop-length.invariant in
    let found = left-found c.args.digits.now n (drop (c.loop-length.length-index + 1) CODE_LENGTHS) c.args.self.now left c.in-Some.place (sym c.in-Some.ensures) in
    let below = place-below c.args.digits.now n c.args.self.now c.in-Some.place (sym c.in-Some.ensures) in
    let here = entry-at c.self.inside.entries.items c.in-Some.place c.index.result.now
    (omega (arith, rw (← c.self.view_is) at below, length-map c.self.inside.entries.items coded)) c.index.ensures in
    let stands = rw c.self.view_is at here in
    ap (option_map uncoded) (sym stands ∙ found)

pub loop-length-preserved : goal.loop-length-preserved
loop-length-preserved c =
    let n = slice_index_or CODE_LENGTHS c.loop-length.length-index 0 in
    let left = rw (drop_more CODE_LENGTHS c.loop-length.length-index 0 c.loop-length-test.true) at c.loop-length.invariant in
    left-next c.args.digits.now n (drop (c.loop-length.length-index + 1) CODE_LENGTHS) c.args.self.now left (sym c.in_default.ensures)

pub returns : goal.returns
returns c =
    let left = rw (drop_all c.loop-length.length-index CODE_LENGTHS c.loop-length-test.false) at c.loop-length.invariant in
    ap (option_map uncoded) (sym (left-none c.args.digits.now c.args.self.now left))
