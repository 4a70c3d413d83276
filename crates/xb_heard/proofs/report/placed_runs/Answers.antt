use Rattle.std.proofs.Common.{◌≡◌, ◌==◌, ◌+◌, ◌∷◌, ◌++◌, [], ◌∙◌, ap, arith, eqb-true, sym, take}
use Rattle.std.proofs.lemmas.List.{take_all, take_more}
use Rattle.xb_heard.specs.PlacedRuns.{placed_runs}
use Rattle.xb_heard.proofs.TakenRows.{taken-end, taken-here, taken-other}
use Rattle.xb_heard.proofs.report.placed_runs.Goals as goal
use Rattle.xb_heard.proofs.report.placed_runs.Goals.{then-eq+in_ok-take_row, else-eq}

pub take_row-requires : goal.take_row-requires
take_row-requires c = omega (arith, c.loop-index.invariant.within, c.loop-index-test.true, c.requires)

pub loop-index-preserved : goal.loop-index-preserved
loop-index-preserved c =
    let more : take (c.loop-index.index + 1) c.args.rows.now ≡ take c.loop-index.index c.args.rows.now ++ c.index-rows-index.result ∷ [] =
    take_more c.args.rows.now c.loop-index.index c.index-rows-index.result c.loop-index-test.true ∙ ap (λ r. take c.loop-index.index c.args.rows.now ++ r ∷ []) (sym c.index-rows-index.is) in
    elim c.if-eq.branch [
      | then-eq+in_ok-take_row w ↦ rw (more, w.runs-is, w.closed-is)
          (taken-here c.args.line c.loop-index.index (take c.loop-index.index c.args.rows.now) c.index-rows-index.result c.loop-index.runs.items c.loop-index.closed c.loop-index.invariant
          w.take_row.new.runs.items w.take_row.new.closed (sym c.line.ensures ∙ eqb-true _ _ (sym w.if-eq.ensures))
          w.in_ok-take_row.ensures.runs w.in_ok-take_row.ensures.end)
      | else-eq w ↦ rw (more, w.runs-is, w.closed-is)
          (taken-other c.args.line c.loop-index.index (take c.loop-index.index c.args.rows.now) c.index-rows-index.result c.loop-index.runs.items c.loop-index.closed c.loop-index.invariant
          (ap (λ k. k == c.args.line) (sym c.line.ensures) ∙ sym w.if-eq.ensures))
    ]

pub returns : goal.returns
returns c =
    taken-end c.args.line c.loop-index.index (take c.loop-index.index c.args.rows.now) c.loop-index.runs.items c.loop-index.closed c.loop-index.invariant
    ∙ ap (λ all. placed_runs c.args.line all) (take_all c.loop-index.index c.args.rows.now (omega (arith, c.loop-index-test.false)))
