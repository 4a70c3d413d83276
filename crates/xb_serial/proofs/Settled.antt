-- While a line is open the register has given the outcomes of the settled attempts, and no others.
use Rattle.std.proofs.Common.{◌≡◌, ℕ, true, false, cond, Bool, ◌||◌, not, ◌⊎◌, inl, inr, List, [], ◌∷◌, ◌++◌, map, fold, length, Option, Some, None, refl, sym, ap, ◌∙◌, subst, append_assoc, append-nil}
use Rattle.std.specs.List.{filter, flat_map, AllByRecursion}
use Rattle.std.specs.Option.{option_to_list}
use Rattle.std.proofs.lemmas.Bool.{cond_both}
use Rattle.std.proofs.lemmas.List.{map-append, same_from_push}
use Rattle.std.proofs.lemmas.List.Elements.{filter-append}
use Rattle.std.proofs.lemmas.List.Sums.{fold-append}
use Rattle.xb_model.specs.declared.dialled.Dialled.{Dialled}
use Rattle.xb_model.specs.declared.dialled.Dialled.TheVariants.{Number, Refused}
use Rattle.xb_model.specs.declared.reason.Reason.TheVariants.{Abandoned}
use Rattle.xb_model.specs.declared.signal.Signal.{Signal}
use Rattle.xb_model.specs.declared.signal.Signal.TheVariants.{Seize, Digit, TimeOut, Release, Close}
use Rattle.xb_model.specs.Numbers.{outcome_of}
use Rattle.xb_model.specs.Plans.{plan_len}
use Rattle.xb_model.specs.Records.{Run, Train, Attempt, attempts_of, has_runs, is_timed, pieces_of, runs_of, trains_of}
use Rattle.xb_model.specs.Signals.{attempt_signals, digit_signal, when}
use Rattle.xb_model.specs.TwoOfFive.{digit_of_pattern, pattern_of_count}
use Rattle.xb_register.specs.declared.state.Phase.{Phase}
use Rattle.xb_register.specs.declared.state.Phase.TheVariants.{OnHook, Listening, Done}
use Rattle.xb_register.specs.Machine.{reaches, enter, give, store, phase_after, outcomes_by}
use Rattle.xb_register.proofs.Outcomes.{outcomes_from}
use Rattle.xb_routes.specs.Table.{Table}
use Rattle.xb_serial.specs.Promises.{is_abandoned, is_settled}
use Rattle.xb_register.proofs.Attempts.{AllButLastReleased, outcomes_from-attempts, released-filter, released-pieces_of}
use Rattle.xb_serial.proofs.OneLine.{both_all}

-- a signal that ends the attempt
abbrev ends : Signal → Bool
ends Seize = false
ends (Digit count bad) = false
ends TimeOut = false
ends Release = true
ends Close = true

abbrev GoOn : List Signal → Type 0
GoOn signals = AllByRecursion (λ signal. ends signal ≡ false) signals

abbrev AreNotAbandoned : List Dialled → Type 0
AreNotAbandoned outcomes = AllByRecursion (λ outcome. is_abandoned outcome ≡ false) outcomes

module _ (table : Table) where
  abbrev given : Phase → List Signal → List Dialled
  given q signals = outcomes_from table.plan q signals

  abbrev after : Phase → List Signal → Phase
  after q signals = fold (phase_after table.plan) q signals

  abbrev signals_by : Attempt → List Signal
  signals_by attempt = attempt_signals table.limits attempt

  abbrev outcome : Attempt → Dialled
  outcome attempt = outcome_of table.plan table.limits attempt.runs

  -- the outcomes of the settled ones
  abbrev pub settled : List Attempt → List Dialled
  settled attempts = map outcome (filter (is_settled table) attempts)

  given-append : (q : Phase) (xs ys : List Signal) → given q (xs ++ ys) ≡ given q xs ++ given (after q xs) ys
  given-append q [] ys = refl
  given-append q (x ∷ xs) ys =
      ap (λ zs. outcomes_by table.plan q x ++ zs) (given-append (phase_after table.plan q x) xs ys)
      ∙ sym (append_assoc (outcomes_by table.plan q x) (given (phase_after table.plan q x) xs) _)

  -- ---- what a release and a close do
  release_ends : (q : Phase) → phase_after table.plan q Release ≡ OnHook
  release_ends OnHook = refl
  release_ends (Listening digits) = refl
  release_ends Done = refl

  abbrev ClosesWith : Phase → Type 0
  ClosesWith q = (given q (Close ∷ []) ≡ []) ⊎ ((count : ℕ) × (given q (Close ∷ []) ≡ Refused Abandoned count ∷ []))

  closes_with : (q : Phase) → ClosesWith q
  closes_with OnHook = inl refl
  closes_with (Listening digits) = inr (length digits, refl)
  closes_with Done = inl refl

  -- ---- signals that end no attempt give no abandonment
  stored_not_abandoned : (digits : List ℕ) (o : Option ℕ) → AreNotAbandoned (option_to_list (store table.plan digits o).outcome)
  stored_not_abandoned digits None = (refl, tt)
  stored_not_abandoned digits (Some d) =
      let more : List ℕ = digits ++ d ∷ [] in
      cond_both (reaches (plan_len table.plan more) (length more)) (give (Number more) Done) (enter (Listening more))
      (λ step. AreNotAbandoned (option_to_list step.outcome)) (λ _. (refl, tt)) (λ _. tt)

  one_not_abandoned : (q : Phase) (signal : Signal) → ends signal ≡ false → AreNotAbandoned (outcomes_by table.plan q signal)
  one_not_abandoned OnHook Seize h = tt
  one_not_abandoned OnHook (Digit count bad) h = tt
  one_not_abandoned OnHook TimeOut h = tt
  one_not_abandoned OnHook Release h = tt
  one_not_abandoned OnHook Close h = tt
  one_not_abandoned (Listening digits) Seize h = tt
  one_not_abandoned (Listening digits) (Digit count bad) h = stored_not_abandoned digits (digit_of_pattern (pattern_of_count count bad))
  one_not_abandoned (Listening digits) TimeOut h = (refl, tt)
  one_not_abandoned (Listening digits) Release h = absurd (cc)
  one_not_abandoned (Listening digits) Close h = absurd (cc)
  one_not_abandoned Done Seize h = tt
  one_not_abandoned Done (Digit count bad) h = tt
  one_not_abandoned Done TimeOut h = tt
  one_not_abandoned Done Release h = tt
  one_not_abandoned Done Close h = tt

  not_abandoned : (q : Phase) (signals : List Signal) → GoOn signals → AreNotAbandoned (given q signals)
  not_abandoned q [] on = tt
  not_abandoned q (signal ∷ signals) on =
      both_all (λ o. is_abandoned o ≡ false) (outcomes_by table.plan q signal) (given (phase_after table.plan q signal) signals)
      (one_not_abandoned q signal on.0) (not_abandoned (phase_after table.plan q signal) signals on.1)

  -- ---- the signals of one attempt
  -- all but the release
  abbrev open_signals : Attempt → List Signal
  open_signals attempt = Seize ∷ (map (digit_signal table.limits) (trains_of table.limits attempt.runs) ++ when (is_timed table.limits attempt.runs) TimeOut)

  signals-open : (attempt : Attempt) (released : Bool) → attempt.released ≡ released → signals_by attempt ≡ open_signals attempt ++ when released Release
  signals-open attempt released e =
      ap (λ zs. Seize ∷ zs) (sym (append_assoc (map (digit_signal table.limits) (trains_of table.limits attempt.runs)) (when (is_timed table.limits attempt.runs) TimeOut) (when attempt.released Release)))
      ∙ ap (λ b. open_signals attempt ++ when b Release) e

  trains_go_on : (trains : List Train) → GoOn (map (digit_signal table.limits) trains)
  trains_go_on [] = tt
  trains_go_on (train ∷ trains) = (refl, trains_go_on trains)

  timed_goes_on : (timed : Bool) → GoOn (when timed TimeOut)
  timed_goes_on true = (refl, tt)
  timed_goes_on false = tt

  open_goes_on : (attempt : Attempt) → GoOn (open_signals attempt)
  open_goes_on attempt = (
    refl,
    both_all (λ signal. ends signal ≡ false) (map (digit_signal table.limits) (trains_of table.limits attempt.runs)) (when (is_timed table.limits attempt.runs) TimeOut)
        (trains_go_on (trains_of table.limits attempt.runs)) (timed_goes_on (is_timed table.limits attempt.runs)),
  )

  released-phase : (attempt : Attempt) → attempt.released ≡ true → after OnHook (signals_by attempt) ≡ OnHook
  released-phase attempt e =
      ap (after OnHook) (signals-open attempt true e)
      ∙ fold-append (phase_after table.plan) OnHook (open_signals attempt) (Release ∷ [])
      ∙ release_ends (after OnHook (open_signals attempt))

  -- ---- one attempt
  module _ (attempt : Attempt) where
    abbrev said : List Dialled
    said = given OnHook (signals_by attempt)

    abbrev at_close : List Dialled
    at_close = given (after OnHook (signals_by attempt)) (Close ∷ [])

    whole : said ++ at_close ≡ outcome attempt ∷ []
    whole =
        sym (given-append OnHook (signals_by attempt) (Close ∷ []))
        ∙ ap (λ zs. given OnHook (zs ++ Close ∷ [])) (sym (append-nil (signals_by attempt)))
        ∙ outcomes_from-attempts table.plan table.limits (attempt ∷ []) (inr refl, tt)

    -- the outcome, if this is so
    abbrev said_if : Bool → List Dialled
    said_if b = map outcome (cond b (attempt ∷ []) [])

    all_said : at_close ≡ [] → said ≡ outcome attempt ∷ []
    all_said none = sym (append-nil said) ∙ ap (λ zs. said ++ zs) (sym none) ∙ whole

    said-released : attempt.released ≡ true → said ≡ settled (attempt ∷ [])
    said-released e =
        all_said (ap (λ q. given q (Close ∷ [])) (released-phase attempt e))
        ∙ ap (λ b. said_if (b || not (is_abandoned (outcome attempt)))) (sym e)

    said-open : attempt.released ≡ false → ClosesWith (after OnHook (signals_by attempt)) → said ≡ settled (attempt ∷ [])
    said-open e (inl none) =
        let only : said ≡ outcome attempt ∷ [] = all_said none in
        let goes : GoOn (signals_by attempt) = subst GoOn (sym (signals-open attempt false e ∙ append-nil (open_signals attempt))) (open_goes_on attempt) in
        let certain : AreNotAbandoned (outcome attempt ∷ []) = subst AreNotAbandoned only (not_abandoned OnHook (signals_by attempt) goes) in
        only
        ∙ ap (λ b. said_if (false || not b)) (sym certain.0)
        ∙ ap (λ b. said_if (b || not (is_abandoned (outcome attempt)))) (sym e)
    said-open e (inr (count, some)) =
        let last = same_from_push said [] (Refused Abandoned count) (outcome attempt) (ap (λ zs. said ++ zs) (sym some) ∙ whole) in
        last.0
        ∙ ap (λ o. said_if (false || not (is_abandoned o))) last.1
        ∙ ap (λ b. said_if (b || not (is_abandoned (outcome attempt)))) (sym e)

    single : (released : Bool) → attempt.released ≡ released → said ≡ settled (attempt ∷ [])
    single true e = said-released e
    single false e = said-open e (closes_with (after OnHook (signals_by attempt)))

  -- ---- all attempts
  all_attempts : (attempts : List Attempt) → AllButLastReleased attempts → given OnHook (flat_map signals_by attempts) ≡ settled attempts
  all_attempts [] r = refl
  all_attempts (attempt ∷ more) r =
      given-append OnHook (signals_by attempt) (flat_map signals_by more) ∙ at r.0 (all_attempts more r.1)
    where
      joined : settled (attempt ∷ []) ++ settled more ≡ settled (attempt ∷ more)
      joined =
          sym (map-append outcome (filter (is_settled table) (attempt ∷ [])) (filter (is_settled table) more))
          ∙ ap (map outcome) (sym (filter-append (is_settled table) (attempt ∷ []) more))

      at : (attempt.released ≡ true) ⊎ (more ≡ []) → given OnHook (flat_map signals_by more) ≡ settled more
          → given OnHook (signals_by attempt) ++ given (after OnHook (signals_by attempt)) (flat_map signals_by more) ≡ settled (attempt ∷ more)
      at (inl e) ih =
          ap (λ q. given OnHook (signals_by attempt) ++ given q (flat_map signals_by more)) (released-phase attempt e)
          ∙ ap (λ zs. zs ++ given OnHook (flat_map signals_by more)) (single attempt attempt.released refl)
          ∙ ap (λ zs. settled (attempt ∷ []) ++ zs) ih
          ∙ joined
      at (inr e) ih =
          ap (λ ms. given OnHook (signals_by attempt) ++ given (after OnHook (signals_by attempt)) (flat_map signals_by ms)) e
          ∙ append-nil (given OnHook (signals_by attempt))
          ∙ single attempt attempt.released refl
          ∙ ap (λ ms. settled (attempt ∷ ms)) (sym e)

  -- the signals of the attempts of a record, without a close
  pub record_attempts : (record_ : List Run) → given OnHook (flat_map signals_by (attempts_of table.limits record_)) ≡ settled (attempts_of table.limits record_)
  record_attempts record_ =
      all_attempts (attempts_of table.limits record_)
      (released-filter (λ piece. has_runs piece.runs) (pieces_of table.limits (runs_of record_)) (released-pieces_of table.limits (runs_of record_)))
