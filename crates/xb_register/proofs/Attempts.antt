-- Each attempt's signals give its outcome.
use Rattle.std.proofs.Common.{◌≡◌, ℕ, List, [], ◌∷◌, ◌++◌, length, map, Bool, true, false, cond, Option, Some, None, refl, ap, ◌∙◌, inl, inr, append_assoc, append-nil}
use Rattle.std.specs.Prelude.{◌⊎◌, is_none}
use Rattle.std.specs.Option.{option_to_list}
use Rattle.std.specs.List.{filter, list_any, flat_map}
use Rattle.xb_model.specs.declared.plan.Plan.{Plan}
use Rattle.xb_model.specs.declared.limits.Limits.{Limits}
use Rattle.xb_model.specs.declared.signal.Signal.{Signal}
use Rattle.xb_model.specs.declared.signal.Signal.TheVariants.{TimeOut, Release, Close}
use Rattle.xb_model.specs.declared.reason.Reason.TheVariants.{Mutilated}
use Rattle.xb_model.specs.declared.dialled.Dialled.{Dialled}
use Rattle.xb_model.specs.declared.dialled.Dialled.TheVariants.{Number, Refused}
use Rattle.xb_model.specs.Records.{Run, Attempt, Train, is_release, into_first, pieces_of, has_runs, attempts_of, trains_of, is_timed, runs_of}
use Rattle.xb_model.specs.Signals.{breaks_in, is_bad_train, digit_signal, when, attempt_signals, signals_of}
use Rattle.xb_model.specs.Numbers.{digit_of_train, train_digits, before_mutilated, good_digits, is_complete, without_number, or_refused, outcome_of, outcomes_of}
use Rattle.xb_model.proofs.Completed.{completed_number, shortest_complete-completed}
use Rattle.xb_model.proofs.Pending.{IsPending, one, reaches-pending}
use Rattle.xb_model.proofs.Spelled.{spelled}
use Rattle.xb_model.specs.OnLines.{on_line}
use Rattle.xb_register.specs.declared.state.Phase.TheVariants.{OnHook, Listening, Done}
use Rattle.xb_register.specs.Laws.{GivesOutcomes}
use Rattle.xb_register.specs.Machine.{store, phase_after, machine}
use Rattle.xb_register.proofs.Outcomes.{outcomes_from, outcomes_given-machine}

-- what the digits of trains give, and then the signals after them
abbrev outcomes_of_digits : Plan → List ℕ → List (Option ℕ) → List Signal → List Dialled
outcomes_of_digits plan digits [] after = outcomes_from plan (Listening digits) after
outcomes_of_digits plan digits (None ∷ trains) after =
    Refused Mutilated (length digits) ∷ outcomes_from plan Done after
outcomes_of_digits plan digits (Some d ∷ trains) after =
    cond (is_complete plan (digits ++ one d))
    (Number (digits ++ one d) ∷ outcomes_from plan Done after)
    (outcomes_of_digits plan (digits ++ one d) trains after)

module _ (plan : Plan) (limits : Limits) where
  -- the signals of trains, and those after them
  abbrev train_signals : List Train → List Signal → List Signal
  train_signals trains after = map (digit_signal limits) trains ++ after

  -- after the outcome of their attempt trains give nothing
  outcomes_from-done : (trains : List Train) (after : List Signal)
      → outcomes_from plan Done (train_signals trains after) ≡ outcomes_from plan Done after
  outcomes_from-done [] after = refl
  outcomes_from-done (train ∷ trains) after = outcomes_from-done trains after

  -- one digit more, or a mutilated one, where it is known what the trains after it give
  store-digit : (digits : List ℕ) (trains : List Train) (after : List Signal) (o : Option ℕ)
      → IsPending plan digits
      → ((digits : List ℕ) → IsPending plan digits
      → outcomes_from plan (Listening digits) (train_signals trains after)
      ≡ outcomes_of_digits plan digits (map (digit_of_train limits) trains) after)
      → option_to_list (store plan digits o).outcome
      ++ outcomes_from plan (store plan digits o).phase (train_signals trains after)
      ≡ outcomes_of_digits plan digits (o ∷ map (digit_of_train limits) trains) after
  store-digit digits trains after None p ih = rw (outcomes_from-done trains after)
  store-digit digits trains after (Some d) p ih = complete (is_complete plan (digits ++ one d)) refl
    where
      complete : (b : Bool) → is_complete plan (digits ++ one d) ≡ b
          → option_to_list (store plan digits (Some d)).outcome
          ++ outcomes_from plan (store plan digits (Some d)).phase (train_signals trains after)
          ≡ outcomes_of_digits plan digits (Some d ∷ map (digit_of_train limits) trains) after
      complete true e = rw (reaches-pending plan digits d p, e, outcomes_from-done trains after)
      complete false e =
          rw (reaches-pending plan digits d p, e) (ih (digits ++ one d) (reaches-pending plan digits d p ∙ e))

  -- trains give what their digits give
  outcomes_from-trains : (digits : List ℕ) (trains : List Train) (after : List Signal) → IsPending plan digits
      → outcomes_from plan (Listening digits) (train_signals trains after)
      ≡ outcomes_of_digits plan digits (map (digit_of_train limits) trains) after
  outcomes_from-trains digits [] after p = refl
  outcomes_from-trains digits (train ∷ trains) after p =
      rw (phase_after, spelled (breaks_in train) (is_bad_train limits train))
      (store-digit digits trains after (digit_of_train limits train) p
      (λ more q. outcomes_from-trains more trains after q))

-- signals that end an attempt, and what comes of those after it: an attempt with no outcome yet is
-- refused, and after its outcome the end gives nothing
record EndsAttempt (plan : Plan) (signals : List Signal) (timed : Bool) (rest : List Dialled) : Type 0 where
  unfinished : (digits : List ℕ)
      → outcomes_from plan (Listening digits) signals ≡ without_number false timed (length digits) ∷ rest
  finished : outcomes_from plan Done signals ≡ rest

-- the number that digits complete, after digits that are there already, or why there is none
abbrev number_or_refusal : Plan → List ℕ → List (Option ℕ) → Bool → Dialled
number_or_refusal plan digits os timed =
    or_refused (completed_number plan digits (before_mutilated os))
    (without_number (list_any is_none os) timed (length (digits ++ before_mutilated os)))

-- digits, and the end of their attempt, give the number that they complete, or why there is none
outcomes_of_digits-end : (plan : Plan) (digits : List ℕ) (os : List (Option ℕ))
    → (after : List Signal) (timed : Bool) (rest : List Dialled) → EndsAttempt plan after timed rest
    → outcomes_of_digits plan digits os after ≡ number_or_refusal plan digits os timed ∷ rest
outcomes_of_digits-end plan digits [] after timed rest ends = rw append-nil (ends.unfinished digits)
outcomes_of_digits-end plan digits (None ∷ os) after timed rest ends = rw (append-nil, ends.finished)
outcomes_of_digits-end plan digits (Some d ∷ os) after timed rest ends =
    at (is_complete plan more) (outcomes_of_digits-end plan more os after timed rest ends)
  where
    more : List ℕ
    more = digits ++ one d

    at : (b : Bool) → outcomes_of_digits plan more os after ≡ number_or_refusal plan more os timed ∷ rest
        → cond b (Number more ∷ outcomes_from plan Done after) (outcomes_of_digits plan more os after)
        ≡ or_refused (cond b (Some more) (completed_number plan more (before_mutilated os)))
        (without_number (list_any is_none os) timed (length (digits ++ d ∷ before_mutilated os))) ∷ rest
    at true h = rw ends.finished
    at false h = rw append_assoc at h

-- each attempt but the last was released
abbrev pub AllButLastReleased : List Attempt → Type 0
AllButLastReleased [] = Unit {0}
AllButLastReleased (piece ∷ pieces) = ((piece.released ≡ true) ⊎ (pieces ≡ [])) × AllButLastReleased pieces

-- so it is with a run more in the first piece
released-into_first : (run : Run) (pieces : List Attempt) → AllButLastReleased pieces
    → AllButLastReleased (into_first run pieces)
released-into_first run [] r = (inr refl, tt)
released-into_first run (piece ∷ pieces) r = r

-- so it is of the pieces of runs that are cut at releases
pub released-pieces_of : (limits : Limits) (runs : List Run) → AllButLastReleased (pieces_of limits runs)
released-pieces_of limits [] = tt
released-pieces_of limits (run ∷ runs) = at (is_release limits run) (released-pieces_of limits runs)
  where
    at : (b : Bool) → AllButLastReleased (pieces_of limits runs)
        → AllButLastReleased
        (cond b (record { runs = []; released = true } ∷ pieces_of limits runs) (into_first run (pieces_of limits runs)))
    at true r = (inl refl, r)
    at false r = released-into_first run (pieces_of limits runs) r

-- and of those of the pieces that pass a test
pub released-filter : (test : Attempt → Bool) (pieces : List Attempt) → AllButLastReleased pieces
    → AllButLastReleased (filter test pieces)
released-filter test [] r = tt
released-filter test (piece ∷ pieces) r = at (test piece) (released-filter test pieces r.1)
  where
    last : (piece.released ≡ true) ⊎ (pieces ≡ []) → (piece.released ≡ true) ⊎ (filter test pieces ≡ [])
    last (inl e) = inl e
    last (inr e) = inr (ap (λ ps. filter test ps) e)

    at : (b : Bool) → AllButLastReleased (filter test pieces)
        → AllButLastReleased (cond b (piece ∷ filter test pieces) (filter test pieces))
    at true s = (last r.0, s)
    at false s = s

-- the signals that end an attempt, after its digits
abbrev end_signals : Bool → Bool → List Signal
end_signals timed released = when timed TimeOut ++ when released Release

-- the signals that end this attempt, and those after it
abbrev from_end : Limits → Attempt → List Signal → List Signal
from_end limits attempt after = end_signals (is_timed limits attempt.runs) attempt.released ++ after

-- an attempt gives its outcome
outcomes_from-attempt : (plan : Plan) (limits : Limits) (attempt : Attempt)
    → (after : List Signal) (rest : List Dialled)
    → EndsAttempt plan (from_end limits attempt after) (is_timed limits attempt.runs) rest
    → outcomes_from plan OnHook (attempt_signals limits attempt ++ after)
    ≡ outcome_of plan limits attempt.runs ∷ rest
outcomes_from-attempt plan limits attempt after rest ends =
    let timed : Bool = is_timed limits attempt.runs in
    let trains : List Train = trains_of limits attempt.runs in
    let dialled : List Signal = map (digit_signal limits) trains in
    let end : List Signal = end_signals timed attempt.released in
    let tail : List Signal = from_end limits attempt after in
    let parts : (dialled ++ end) ++ after ≡ dialled ++ tail = append_assoc dialled end after in
    let heard = outcomes_from-trains plan limits [] trains tail refl in
    let digits : List (Option ℕ) = train_digits limits attempt.runs in
    let given = outcomes_of_digits-end plan [] digits tail timed rest ends in
    rw (parts, heard, given, shortest_complete-completed plan (good_digits limits attempt.runs))

-- a release ends an attempt
ends-release : (plan : Plan) (timed : Bool) (after : List Signal)
    → EndsAttempt plan (end_signals timed true ++ after) timed (outcomes_from plan OnHook after)
ends-release plan true after = record { unfinished = λ digits. refl; finished = refl }
ends-release plan false after = record { unfinished = λ digits. refl; finished = refl }

-- and so does the close, whether or not a release came before it
ends-close : (plan : Plan) (timed released : Bool)
    → EndsAttempt plan (end_signals timed released ++ Close ∷ []) timed []
ends-close plan true true = record { unfinished = λ digits. refl; finished = refl }
ends-close plan true false = record { unfinished = λ digits. refl; finished = refl }
ends-close plan false true = record { unfinished = λ digits. refl; finished = refl }
ends-close plan false false = record { unfinished = λ digits. refl; finished = refl }

-- the signals of attempts, and the close
abbrev pub signals_and_close : Limits → List Attempt → List Signal
signals_and_close limits attempts = flat_map (attempt_signals limits) attempts ++ Close ∷ []

-- the outcome of each attempt
abbrev pub outcomes_of_attempts : Plan → Limits → List Attempt → List Dialled
outcomes_of_attempts plan limits attempts = map (λ attempt. outcome_of plan limits attempt.runs) attempts

-- attempts give their outcomes, in order
pub outcomes_from-attempts : (plan : Plan) (limits : Limits) (attempts : List Attempt)
    → AllButLastReleased attempts
    → outcomes_from plan OnHook (signals_and_close limits attempts) ≡ outcomes_of_attempts plan limits attempts
outcomes_from-attempts plan limits [] r = refl
outcomes_from-attempts plan limits (attempt ∷ more) r =
    ap (outcomes_from plan OnHook)
    (append_assoc (attempt_signals limits attempt) (flat_map (attempt_signals limits) more) (Close ∷ []))
    ∙ at r.0 (outcomes_from-attempts plan limits more r.1)
  where
    after : List Signal
    after = signals_and_close limits more

    at : (attempt.released ≡ true) ⊎ (more ≡ [])
        → outcomes_from plan OnHook after ≡ outcomes_of_attempts plan limits more
        → outcomes_from plan OnHook (attempt_signals limits attempt ++ after)
        ≡ outcome_of plan limits attempt.runs ∷ outcomes_of_attempts plan limits more
    at (inl e) ih =
        rw (← ih) (outcomes_from-attempt plan limits attempt after (outcomes_from plan OnHook after)
        (rw e (ends-release plan (is_timed limits attempt.runs) after)))
    at (inr e) ih =
        rw e (outcomes_from-attempt plan limits attempt (Close ∷ []) []
        (ends-close plan (is_timed limits attempt.runs) attempt.released))

-- the signals of a record give its outcomes
outcomes_from-signals_of : (plan : Plan) (limits : Limits) (record_ : List Run)
    → outcomes_from plan OnHook (signals_of limits record_) ≡ outcomes_of plan limits record_
outcomes_from-signals_of plan limits record_ =
    let pieces : List Attempt = pieces_of limits (runs_of record_) in
    outcomes_from-attempts plan limits (attempts_of limits record_)
    (released-filter (λ piece. has_runs piece.runs) pieces (released-pieces_of limits (runs_of record_)))

-- on a line the signals of a record give its outcomes
pub gives_outcomes : (plan : Plan) → GivesOutcomes plan (machine plan)
gives_outcomes plan limits line record_ =
    outcomes_given-machine plan line (signals_of limits record_)
    ∙ ap (on_line line) (outcomes_from-signals_of plan limits record_)
