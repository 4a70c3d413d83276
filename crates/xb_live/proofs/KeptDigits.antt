-- The digits that are kept, signal by signal, are those that were dialled in the last attempt.
use Rattle.std.proofs.Common.{◌≡◌, ℕ, List, [], ◌∷◌, ◌++◌, map, fold, Bool, true, false, Option, Some, None, refl, sym, ap, ◌∙◌, ⊎_elim, append_assoc, append-nil}
use Rattle.std.specs.List.{flat_map}
use Rattle.std.proofs.lemmas.List.Sums.{fold-append}
use Rattle.xb_model.specs.declared.limits.Limits.{Limits}
use Rattle.xb_model.specs.declared.plan.Plan.{Plan}
use Rattle.xb_model.specs.declared.signal.Signal.{Signal}
use Rattle.xb_model.specs.declared.signal.Signal.TheVariants.{TimeOut, Release, Close}
use Rattle.xb_model.specs.Numbers.{before_mutilated, digit_of_train, good_digits, is_complete}
use Rattle.xb_model.specs.Records.{Attempt, Train, is_timed, trains_of}
use Rattle.xb_model.specs.Signals.{attempt_signals, breaks_in, digit_signal, is_bad_train, when}
use Rattle.xb_model.proofs.Completed.{completed_number, shortest_complete-completed}
use Rattle.xb_model.proofs.Pending.{IsPending, one, reaches-pending}
use Rattle.xb_model.proofs.Spelled.{spelled}
use Rattle.xb_register.specs.declared.state.Phase.{Phase}
use Rattle.xb_register.specs.declared.state.Phase.TheVariants.{OnHook, Listening, Done}
use Rattle.xb_register.specs.Machine.{advance, store}
use Rattle.xb_register.proofs.Attempts.{AllButLastReleased, signals_and_close}
use Rattle.xb_live.specs.Hearings.{digits_by}
use Rattle.xb_live.specs.Times.{dialled_in, last_or, or_else}

-- the phase of the register, and the digits
pub record Kept : Type 0 where
  pub register : Phase
  pub dialled : List ℕ

abbrev pub kept : Phase → List ℕ → Kept
kept register dialled = record { register = register; dialled = dialled }

-- after a signal
abbrev pub keep : Plan → Kept → Signal → Kept
keep plan k signal =
    let step = advance plan k.register signal in
    kept step.phase (digits_by step.outcome step.phase k.dialled)

abbrev pub keep_all : Plan → Kept → List Signal → Kept
keep_all plan k signals = fold (keep plan) k signals

module _ (plan : Plan) (limits : Limits) where
  -- after the outcome of their attempt no digits are kept
  done : (trains : List Train) (digits : List ℕ) → (keep_all plan (kept Done digits) (map (digit_signal limits) trains)).dialled ≡ digits
  done [] digits = refl
  done (train ∷ trains) digits = done trains digits

  -- what is dialled by more digits, after some that complete no number
  abbrev dialled_from : List ℕ → List (Option ℕ) → List ℕ
  dialled_from digits os = or_else (completed_number plan digits (before_mutilated os)) (digits ++ before_mutilated os)

  abbrev stored : List ℕ → Option ℕ → Kept
  stored digits o =
      let step = store plan digits o in
      kept step.phase (digits_by step.outcome step.phase digits)

  store-digit : (digits : List ℕ) (trains : List Train) (o : Option ℕ) → IsPending plan digits
      → ((more : List ℕ) → IsPending plan more
      → (keep_all plan (kept (Listening more) more) (map (digit_signal limits) trains)).dialled ≡ dialled_from more (map (digit_of_train limits) trains))
      → (keep_all plan (stored digits o) (map (digit_signal limits) trains)).dialled ≡ dialled_from digits (o ∷ map (digit_of_train limits) trains)
  store-digit digits trains None p ih = done trains digits ∙ sym (append-nil digits)
  store-digit digits trains (Some d) p ih = complete (is_complete plan more) refl
    where
      more : List ℕ
      more = digits ++ one d

      good : List ℕ
      good = before_mutilated (map (digit_of_train limits) trains)

      complete : (b : Bool) → is_complete plan more ≡ b
          → (keep_all plan (stored digits (Some d)) (map (digit_signal limits) trains)).dialled ≡ dialled_from digits (Some d ∷ map (digit_of_train limits) trains)
      complete true e = rw (reaches-pending plan digits d p, e) (done trains more)
      complete false e =
          rw (reaches-pending plan digits d p, e)
          (ih more (reaches-pending plan digits d p ∙ e) ∙ ap (or_else (completed_number plan more good)) (append_assoc digits (one d) good))

  of_trains : (digits : List ℕ) (trains : List Train) → IsPending plan digits
      → (keep_all plan (kept (Listening digits) digits) (map (digit_signal limits) trains)).dialled ≡ dialled_from digits (map (digit_of_train limits) trains)
  of_trains digits [] p = sym (append-nil digits)
  of_trains digits (train ∷ trains) p =
      ap (λ o. (keep_all plan (stored digits o) (map (digit_signal limits) trains)).dialled) (spelled (breaks_in train) (is_bad_train limits train))
      ∙ store-digit digits trains (digit_of_train limits train) p (λ more q. of_trains more trains q)

  -- the end of an attempt keeps its digits
  time_out : (phase : Phase) (digits : List ℕ) → (keep plan (kept phase digits) TimeOut).dialled ≡ digits
  time_out OnHook digits = refl
  time_out (Listening heard) digits = refl
  time_out Done digits = refl

  release : (phase : Phase) (digits : List ℕ) → (keep plan (kept phase digits) Release).dialled ≡ digits
  release OnHook digits = refl
  release (Listening heard) digits = refl
  release Done digits = refl

  pub close : (phase : Phase) (digits : List ℕ) → (keep plan (kept phase digits) Close).dialled ≡ digits
  close OnHook digits = refl
  close (Listening heard) digits = refl
  close Done digits = refl

  hook : (phase : Phase) (digits : List ℕ) → (keep plan (kept phase digits) Release).register ≡ OnHook
  hook OnHook digits = refl
  hook (Listening heard) digits = refl
  hook Done digits = refl

  ends : (k : Kept) (timed released : Bool) → (keep_all plan k (when timed TimeOut ++ when released Release)).dialled ≡ k.dialled
  ends k false false = refl
  ends k true false = time_out k.register k.dialled
  ends k false true = release k.register k.dialled
  ends k true true =
      let out : Kept = keep plan k TimeOut in
      release out.register out.dialled ∙ time_out k.register k.dialled

  hangs-up : (k : Kept) (timed : Bool) → (keep_all plan k (when timed TimeOut ++ when true Release)).register ≡ OnHook
  hangs-up k false = hook k.register k.dialled
  hangs-up k true =
      let out : Kept = keep plan k TimeOut in
      hook out.register out.dialled

  module _ (before : List ℕ) (attempt : Attempt) where
    -- after the signals of an attempt
    abbrev after : Kept
    after = keep_all plan (kept OnHook before) (attempt_signals limits attempt)

    abbrev spoken : Kept
    spoken = keep_all plan (kept (Listening []) []) (map (digit_signal limits) (trains_of limits attempt.runs))

    parts : after ≡ keep_all plan spoken (when (is_timed limits attempt.runs) TimeOut ++ when attempt.released Release)
    parts =
        fold-append (keep plan) (kept (Listening []) []) (map (digit_signal limits) (trains_of limits attempt.runs))
        (when (is_timed limits attempt.runs) TimeOut ++ when attempt.released Release)

    -- its digits are kept
    of_attempt : after.dialled ≡ dialled_in plan limits attempt.runs
    of_attempt =
        ap (λ (k : Kept). k.dialled) parts
        ∙ ends spoken (is_timed limits attempt.runs) attempt.released
        ∙ of_trains [] (trains_of limits attempt.runs) refl
        ∙ ap (λ number. or_else number (good_digits limits attempt.runs)) (sym (shortest_complete-completed plan (good_digits limits attempt.runs)))

    -- and where it was released the line is on hook
    of_release : attempt.released ≡ true → after.register ≡ OnHook
    of_release e =
        ap (λ (k : Kept). k.register) parts
        ∙ ap (λ r. (keep_all plan spoken (when (is_timed limits attempt.runs) TimeOut ++ when r Release)).register) e
        ∙ hangs-up spoken (is_timed limits attempt.runs)

  -- so those of the last attempt are kept
  pub of_attempts : (before : List ℕ) (attempts : List Attempt) → AllButLastReleased attempts
      → (keep_all plan (kept OnHook before) (signals_and_close limits attempts)).dialled ≡ last_or before (map (λ (attempt : Attempt). dialled_in plan limits attempt.runs) attempts)
  of_attempts before [] r = refl
  of_attempts before (attempt ∷ more) r =
      let rest = of_attempts (dialled_in plan limits attempt.runs) more r.1 in
      ap (λ signals. (keep_all plan (kept OnHook before) signals).dialled) (append_assoc (attempt_signals limits attempt) (flat_map (attempt_signals limits) more) (Close ∷ []))
      ∙ ap (λ (k : Kept). k.dialled) (fold-append (keep plan) (kept OnHook before) (attempt_signals limits attempt) (signals_and_close limits more))
      ∙ ⊎_elim
      (λ released.
      ap (λ (phase : Phase). (keep_all plan (kept phase (after before attempt).dialled) (signals_and_close limits more)).dialled) (of_release before attempt released)
      ∙ ap (λ digits. (keep_all plan (kept OnHook digits) (signals_and_close limits more)).dialled) (of_attempt before attempt)
      ∙ rest)
      (λ last.
      ap (λ later. (keep_all plan (after before attempt) (signals_and_close limits later)).dialled) last
      ∙ close (after before attempt).register (after before attempt).dialled
      ∙ of_attempt before attempt
      ∙ sym (ap (λ later. last_or (dialled_in plan limits attempt.runs) (map (λ (a : Attempt). dialled_in plan limits a.runs) later)) last))
      r.0
