use Rattle.std.proofs.Common.{◌≡◌, List, map, sym, subst}
use Rattle.xb_model.specs.Records.{Run, joined}
use Rattle.xb_heard.specs.PlacedRuns.{run_in}
use Rattle.xb_heard.specs.Attempts.{attempt_in, heard_attempts}
use Rattle.xb_heard.specs.Report.{Tells}
use Rattle.xb_heard.proofs.Outcomes.{at_ok}
use Rattle.xb_heard.proofs.Stories.{tells}
use Rattle.xb_heard.proofs.report.heard_of.Goals as goal

pub returns-clause-tells : goal.returns-clause-tells
returns-clause-tells c =
    at_ok (λ attempts. map attempt_in attempts.items ≡ heard_attempts c.args.plan c.args.limits c.args.runs.now)
    (λ attempts. (record_ : List Run) → map run_in c.args.runs.now ≡ joined record_
    → Tells c.args.plan c.args.limits record_ (map attempt_in attempts.items))
    c.heard_attempts.result
    (λ attempts is record_ same. subst (Tells c.args.plan c.args.limits record_) (sym is) (tells c.args.plan c.args.limits c.args.runs.now record_ same))
    c.heard_attempts.ensures
