use Rattle.std.proofs.Common.{map, sym, subst, ap, ◌∙◌}
use Rattle.xb_model.specs.LineValues.{AreValues}
use Rattle.xb_heard.specs.PlacedRuns.{AreOfRecords, run_in, placed_runs}
use Rattle.xb_heard.specs.Places.{ArePlaced, ArePlacedByLine}
use Rattle.xb_heard.proofs.Outcomes.{at_ok}
use Rattle.xb_heard.proofs.PlacedRuns.{run_in-placed_runs}
use Rattle.xb_heard.proofs.Places.{are_placed}
use Rattle.xb_heard.proofs.report.runs_by_line.Goals as goal

pub returns-clause-places : goal.returns-clause-places
returns-clause-places c =
    at_ok (λ lines. AreValues (map (λ runs. runs.items) lines) (λ l. placed_runs l c.args.rows.now))
    (λ lines. ArePlacedByLine c.args.rows.now (map (λ runs. runs.items) lines)) c.placed_by_line.result
    (λ lines is l none h. subst (ArePlaced l c.args.rows.now) (sym (is l none h)) (are_placed l c.args.rows.now))
    c.placed_by_line.ensures

pub returns-clause-runs : goal.returns-clause-runs
returns-clause-runs c =
    at_ok (λ lines. AreValues (map (λ runs. runs.items) lines) (λ l. placed_runs l c.args.rows.now))
    (λ lines. AreOfRecords c.args.rows.now (map (λ runs. runs.items) lines)) c.placed_by_line.result
    (λ lines is l none h. ap (map run_in) (is l none h) ∙ run_in-placed_runs l c.args.rows.now)
    c.placed_by_line.ensures
