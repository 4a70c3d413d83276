-- The pieces of the runs of a line, cut at the releases, are the calls that its calls are taken for.
use Rattle.std.proofs.Common.{◌≡◌, ℕ, ◌≤◌, Bool, true, false, List, [], ◌∷◌, ◌++◌, map, refl, sym, ap, ◌∙◌, append-nil, le-leb}
use Rattle.std.specs.Prelude.{nat_le}
use Rattle.std.specs.List.{flat_map}
use Rattle.xb_model.specs.declared.limits.Limits.{Limits}
use Rattle.xb_model.specs.Records.{Attempt, Run, break, into_first, make, pieces_of}
use Rattle.xb_worn.specs.declared.pulse.SentPulse.{SentPulse}
use Rattle.xb_worn.specs.HeardCalls.{hangs_up, taken_for}
use Rattle.xb_worn.specs.SentCalls.{SentCall, call_runs, line_runs, pulse_runs, sent_call}

-- the runs of each piece
abbrev pub runs_of_pieces : List Attempt → List (List Run)
runs_of_pieces pieces = map (λ piece. piece.runs) pieces

-- a run before the first piece
abbrev onto : Run → List (List Run) → List (List Run)
onto run [] = (run ∷ []) ∷ []
onto run (piece ∷ pieces) = (run ∷ piece) ∷ pieces

runs-into : (run : Run) (pieces : List Attempt)
    → runs_of_pieces (into_first run pieces) ≡ onto run (runs_of_pieces pieces)
runs-into run [] = refl
runs-into run (piece ∷ pieces) = refl

-- the calls that a call is taken for, as runs
abbrev pub taken_runs : Limits → ℕ → ℕ → List SentPulse → List (List Run)
taken_runs limits line seize pulses = map call_runs (taken_for limits (sent_call line seize pulses))

-- the pieces of the pulses of a call and of what comes after them, which is nothing or begins with a release
pieces-pulses : (limits : Limits) (line : ℕ) (tail : List Run) (later : List (List Run))
    → ((seize : ℕ) → runs_of_pieces (into_first (make seize) (pieces_of limits tail))
    ≡ (make seize ∷ []) ∷ later)
    → (pulses : List SentPulse) (seize : ℕ)
    → runs_of_pieces (into_first (make seize) (pieces_of limits (flat_map pulse_runs pulses ++ tail)))
    ≡ taken_runs limits line seize pulses ++ later
pieces-pulses limits line tail later ends [] seize = ends seize
pieces-pulses limits line tail later ends (pulse ∷ pulses) seize =
    at (pieces-pulses limits line tail later ends pulses pulse.make_ms) (hangs_up limits pulse) refl
  where
    at : runs_of_pieces (into_first (make pulse.make_ms) (pieces_of limits (flat_map pulse_runs pulses ++ tail)))
        ≡ taken_runs limits line pulse.make_ms pulses ++ later
        → (hung : Bool) → hangs_up limits pulse ≡ hung
        → runs_of_pieces (into_first (make seize) (pieces_of limits
        (flat_map pulse_runs (pulse ∷ pulses) ++ tail)))
        ≡ taken_runs limits line seize (pulse ∷ pulses) ++ later
    at rest true e = rw e (ap (λ pieces. (make seize ∷ []) ∷ pieces) rest)
    at rest false e =
        rw e
        (let goes_on = into_first (make pulse.make_ms) (pieces_of limits (flat_map pulse_runs pulses ++ tail)) in
        runs-into (make seize) (into_first (break pulse.break_ms) goes_on)
        ∙ ap (onto (make seize)) (runs-into (break pulse.break_ms) goes_on)
        ∙ ap (λ pieces. onto (make seize) (onto (break pulse.break_ms) pieces)) rest)

-- the last call of a line
pieces-last : (limits : Limits) (call : SentCall)
    → runs_of_pieces (pieces_of limits (call_runs call)) ≡ map call_runs (taken_for limits call)
pieces-last limits call =
    ap (λ runs. runs_of_pieces (into_first (make call.seize_ms) (pieces_of limits runs)))
    (sym (append-nil (flat_map pulse_runs call.pulses)))
    ∙ pieces-pulses limits call.line [] [] (λ seize. refl) call.pulses call.seize_ms
    ∙ append-nil (map call_runs (taken_for limits call))

-- a call that is hung up
pieces-hung_up : (limits : Limits) (hang_up : ℕ) → limits.release ≤ hang_up → (call : SentCall) (rest : List Run)
    → runs_of_pieces (pieces_of limits (call_runs call ++ break hang_up ∷ rest))
    ≡ map call_runs (taken_for limits call) ++ runs_of_pieces (pieces_of limits rest)
pieces-hung_up limits hang_up long call rest =
    let release : nat_le limits.release hang_up ≡ true = le-leb _ _ long in
    pieces-pulses limits call.line (break hang_up ∷ rest) (runs_of_pieces (pieces_of limits rest))
    (λ seize. rw release refl) call.pulses call.seize_ms

-- the calls of a line
pub pieces-line : (limits : Limits) (hang_up : ℕ) → limits.release ≤ hang_up → (calls : List SentCall)
    → runs_of_pieces (pieces_of limits (line_runs hang_up calls))
    ≡ flat_map (λ call. map call_runs (taken_for limits call)) calls
pieces-line limits hang_up long [] = refl
pieces-line limits hang_up long (call ∷ []) =
    pieces-last limits call ∙ sym (append-nil (map call_runs (taken_for limits call)))
pieces-line limits hang_up long (call ∷ next ∷ more) =
    pieces-hung_up limits hang_up long call (line_runs hang_up (next ∷ more))
    ∙ ap (λ pieces. map call_runs (taken_for limits call) ++ pieces)
    (pieces-line limits hang_up long (next ∷ more))
