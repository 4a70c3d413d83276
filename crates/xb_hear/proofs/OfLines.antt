-- What is told of a line.
use Rattle.std.proofs.Common.{arith, get_or, map, ◌≡◌, ◌<◌, ℕ, List, [], ◌∙◌, ap, length, sym}
use Rattle.std.proofs.lemmas.List.{get_or-map}
use Rattle.xb_model.specs.declared.limits.Limits.{Limits}
use Rattle.xb_model.specs.declared.line.TheConstants.{LINES}
use Rattle.xb_model.specs.declared.plan.Plan.{Plan}
use Rattle.xb_model.specs.LineValues.{AreValues}
use Rattle.xb_model.specs.Records.{record_of}
use Rattle.xb_model.specs.Rows.{LoopRow}
use Rattle.xb_heard.specs.declared.run.PlacedRun.{PlacedRun}
use Rattle.xb_heard.specs.PlacedRuns.{placed_runs}
use Rattle.xb_heard.proofs.PlacedRuns.{run_in-placed_runs}
use Rattle.xb_heard.proofs.Stories.{tells}
use Rattle.xb_hear.specs.LineAttempts.{AgreesWithPage}

-- the runs of a line among those of all lines
pub runs-of-line : {V : Type 0} (items : V → List PlacedRun) (lines : List V) (R : List LoopRow) (l : ℕ) (v : V)
    → length lines ≡ LINES → l < LINES → ((d : V) → v ≡ get_or lines l d)
    → AreValues (map items lines) (λ k. placed_runs k R) → items v ≡ placed_runs l R
runs-of-line items lines R l v every below is are =
    ap items (is v) ∙ sym (get_or-map items lines l v [] (omega (arith, every, below))) ∙ are l [] below

-- the attempts of each line have the outcomes of its record
pub agrees : (P : Plan) (L : Limits) (R : List LoopRow) → AgreesWithPage P L R
agrees P L R l = (tells P L (placed_runs l R) (record_of l R) (run_in-placed_runs l R)).outcomes
