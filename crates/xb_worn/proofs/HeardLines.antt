-- What is heard of a line is what is said of its calls.
use Rattle.std.proofs.Common.{◌≡◌, ℕ, Bool, true, false, List, [], ◌∷◌, ◌++◌, map, refl, ap, ap₂, ◌∙◌}
use Rattle.std.specs.Prelude.{◌==◌}
use Rattle.std.specs.List.{AllByRecursion, filter, flat_map}
use Rattle.xb_model.specs.declared.dialled.Dialled.{Dialled}
use Rattle.xb_model.specs.declared.limits.Limits.{Limits}
use Rattle.xb_model.specs.declared.plan.Plan.{Plan}
use Rattle.xb_model.specs.Numbers.{outcome_of, outcomes_of}
use Rattle.xb_model.specs.Records.{Attempt, Run, has_runs, pieces_of, record_up_to_close, runs_of}
use Rattle.xb_calls.specs.Dialling.{on_line}
use Rattle.xb_worn.specs.HeardCalls.{OutcomesAreHeard, outcome_after, outcomes_after, taken_for}
use Rattle.xb_worn.specs.SentCalls.{Lasts, SentCall, call_runs, calls_on, line_runs}
use Rattle.xb_worn.proofs.HeardDigits.{outcome-call}
use Rattle.xb_worn.proofs.HeardPieces.{pieces-line, runs_of_pieces}
use Rattle.xb_worn.proofs.SentRuns.{runs-line}

-- the outcomes of pieces, by their runs
abbrev outcomes_of_runs : Plan → Limits → List (List Run) → List Dialled
outcomes_of_runs plan limits pieces = map (outcome_of plan limits) (filter has_runs pieces)

by-runs : (plan : Plan) (limits : Limits) (pieces : List Attempt)
    → map (λ attempt. outcome_of plan limits attempt.runs) (filter (λ piece. has_runs piece.runs) pieces)
    ≡ outcomes_of_runs plan limits (runs_of_pieces pieces)
by-runs plan limits [] = refl
by-runs plan limits (piece ∷ pieces) = at (by-runs plan limits pieces) (has_runs piece.runs) refl
  where
    at : map (λ attempt. outcome_of plan limits attempt.runs) (filter (λ p. has_runs p.runs) pieces)
        ≡ outcomes_of_runs plan limits (runs_of_pieces pieces)
        → (has : Bool) → has_runs piece.runs ≡ has
        → map (λ attempt. outcome_of plan limits attempt.runs) (filter (λ p. has_runs p.runs) (piece ∷ pieces))
        ≡ outcomes_of_runs plan limits (runs_of_pieces (piece ∷ pieces))
    at rest true e = rw e (ap (λ outcomes. outcome_of plan limits piece.runs ∷ outcomes) rest)
    at rest false e = rw e rest

-- the outcomes of calls
outcomes-calls : (plan : Plan) (limits : Limits) (calls : List SentCall) (more : List (List Run))
    → outcomes_of_runs plan limits (map call_runs calls ++ more)
    ≡ map (outcome_after plan limits) calls ++ outcomes_of_runs plan limits more
outcomes-calls plan limits [] more = refl
outcomes-calls plan limits (call ∷ calls) more =
    ap₂ (λ first rest. first ∷ rest) (outcome-call plan limits call) (outcomes-calls plan limits calls more)

outcomes-taken : (plan : Plan) (limits : Limits) (calls : List SentCall)
    → outcomes_of_runs plan limits (flat_map (λ call. map call_runs (taken_for limits call)) calls)
    ≡ flat_map (outcomes_after plan limits) calls
outcomes-taken plan limits [] = refl
outcomes-taken plan limits (call ∷ calls) =
    outcomes-calls plan limits (taken_for limits call)
    (flat_map (λ c. map call_runs (taken_for limits c)) calls)
    ∙ ap (λ rest. outcomes_after plan limits call ++ rest) (outcomes-taken plan limits calls)

-- the calls of a line last
last-on : (l : ℕ) (calls : List SentCall) → AllByRecursion Lasts calls → AllByRecursion Lasts (calls_on l calls)
last-on l [] last = tt
last-on l (call ∷ calls) last = at (last-on l calls last.1) (call.line == l) refl
  where
    at : AllByRecursion Lasts (calls_on l calls) → (on : Bool) → (call.line == l) ≡ on
        → AllByRecursion Lasts (calls_on l (call ∷ calls))
    at later true e = rw e (last.0, later)
    at later false e = rw e later

pub outcomes_are_heard : OutcomesAreHeard
outcomes_are_heard plan limits hang_up calls rows last some long sent l =
    let own = calls_on l calls in
    ap (λ rows_of_l. outcomes_of plan limits (record_up_to_close rows_of_l)) (sent l)
    ∙ by-runs plan limits (pieces_of limits (runs_of (record_up_to_close (on_line l (line_runs hang_up own)))))
    ∙ ap (λ runs. outcomes_of_runs plan limits (runs_of_pieces (pieces_of limits runs)))
    (runs-line hang_up some l own (last-on l calls last))
    ∙ ap (outcomes_of_runs plan limits) (pieces-line limits hang_up long own)
    ∙ outcomes-taken plan limits own
