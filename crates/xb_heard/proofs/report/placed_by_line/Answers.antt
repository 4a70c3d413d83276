use Rattle.std.proofs.Common.{◌≡◌, ◌+◌, ◌∷◌, ◌++◌, [], ◌∙◌, ap, arith, false, rules, sym, take}
use Rattle.std.proofs.lemmas.List.{take_all, take_more}
use Rattle.xb_heard.specs.PlacedRuns.{placed_runs}
use Rattle.xb_heard.proofs.TakenRows.{are-taken-start, its, lists-more, taken-end}
use Rattle.xb_heard.proofs.report.placed_by_line.Goals as goal

pub loop-index-init : goal.loop-index-init
loop-index-init c =
    are-taken-start (λ v. v.items) c.in_ok-lines.lines c.in_ok-closed.closed c.in_ok-lines.ensures.lines c.in_ok-closed.ensures.lines
    (λ k d h. let made = c.in_ok-lines.ensures.made k d h in search rules)
    (λ k d h. let made = c.in_ok-closed.ensures.made k d h in search rules)

pub take_row-requires : goal.take_row-requires
take_row-requires c =
    let is = its (λ v. v.items) c.loop-index.index (take c.loop-index.index c.args.rows.now) c.index-rows-index.result c.loop-index.lines c.loop-index.closed c.get_mut.result.now
    c.get_mut-in-loop-index.result.now c.line-line.result c.line-line.ensures c.get_mut.ensures.lines c.get_mut-in-loop-index.ensures.lines
    c.get_mut.ensures.below c.get_mut.ensures.value c.get_mut-in-loop-index.ensures.value c.loop-index.invariant in
    omega (arith, is.within, c.loop-index-test.true, c.requires)

pub loop-index-preserved : goal.loop-index-preserved
loop-index-preserved c =
    let more : take (c.loop-index.index + 1) c.args.rows.now ≡ take c.loop-index.index c.args.rows.now ++ c.index-rows-index.result ∷ [] =
    take_more c.args.rows.now c.loop-index.index c.index-rows-index.result c.loop-index-test.true ∙ ap (λ r. take c.loop-index.index c.args.rows.now ++ r ∷ []) (sym c.index-rows-index.is) in
    rw more
    (lists-more (λ v. v.items) c.loop-index.index (take c.loop-index.index c.args.rows.now) c.index-rows-index.result c.loop-index.lines c.loop-index.closed c.get_mut.result.now
    c.get_mut-in-loop-index.result.now c.line-line.result c.line-line.ensures c.get_mut.ensures.lines c.get_mut-in-loop-index.ensures.lines
    c.get_mut.ensures.below c.get_mut.ensures.value c.get_mut-in-loop-index.ensures.value c.loop-index.invariant
    c.take_row.new.runs c.take_row.new.closed c.in_ok-take_row.ensures.runs c.in_ok-take_row.ensures.end)

pub returns : goal.returns
returns c = λ l none h.
    taken-end l c.loop-index.index (take c.loop-index.index c.args.rows.now) _ _ (c.loop-index.invariant l none false h)
    ∙ ap (λ all. placed_runs l all) (take_all c.loop-index.index c.args.rows.now (omega (arith, c.loop-index-test.false)))
