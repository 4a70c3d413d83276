use Rattle.std.proofs.Common.{◌≡◌, sym, ap, ◌∙◌, map, subst}
use Rattle.xb_model.specs.Records.{joined, record_of}
use Rattle.xb_heard.specs.PlacedRuns.{run_in, placed_runs}
use Rattle.xb_heard.specs.Places.{ArePlaced}
use Rattle.xb_heard.proofs.Outcomes.{at_ok}
use Rattle.xb_heard.proofs.PlacedRuns.{run_in-placed_runs}
use Rattle.xb_heard.proofs.Places.{are_placed}
use Rattle.xb_heard.proofs.report.runs_of_line.Goals as goal

pub returns-clause-places : goal.returns-clause-places
returns-clause-places c =
    at_ok (λ runs. runs.items ≡ placed_runs c.args.line c.args.rows.now)
    (λ runs. ArePlaced c.args.line c.args.rows.now runs.items) c.placed_runs.result
    (λ runs is. subst (ArePlaced c.args.line c.args.rows.now) (sym is) (are_placed c.args.line c.args.rows.now))
    c.placed_runs.ensures

pub returns-clause-runs : goal.returns-clause-runs
returns-clause-runs c =
    at_ok (λ runs. runs.items ≡ placed_runs c.args.line c.args.rows.now)
    (λ runs. map run_in runs.items ≡ joined (record_of c.args.line c.args.rows.now)) c.placed_runs.result
    (λ runs is. ap (map run_in) is ∙ run_in-placed_runs c.args.line c.args.rows.now)
    c.placed_runs.ensures
