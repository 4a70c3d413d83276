-- What is heard of a line is how long its rows last, and what was dialled in its last attempt.
use Rattle.std.proofs.Common.{◌≡◌, ◌≤◌, ◌+◌, ◌-◌, ◌^◌, ℕ, suc, min, List, [], ◌∷◌, ◌++◌, map, fold, length, Bool, true, false, refl, sym, ap, ◌∙◌, subst, ⊎_elim, append_assoc, length-append, add-zero, arith, sum_by}
use Rattle.std.specs.List.{AllByRecursion, filter, flat_map}
use Rattle.std.proofs.lemmas.Bool.{cases_Bool}
use Rattle.std.proofs.lemmas.Bool.Decides.{nat_tests}
use Rattle.std.proofs.lemmas.List.Elements.{filter-append}
use Rattle.std.proofs.lemmas.List.Sums.{fold-append, sum_by-cons}
use Rattle.xb_model.specs.declared.limits.Limits.{Limits}
use Rattle.xb_model.specs.declared.on.On.{On}
use Rattle.xb_model.specs.declared.plan.Plan.{Plan}
use Rattle.xb_model.specs.declared.signal.Signal.{Signal}
use Rattle.xb_model.specs.declared.signal.Signal.TheVariants.{TimeOut, Release, Close}
use Rattle.xb_model.specs.Image.{image_from, state_after}
use Rattle.xb_model.specs.LawfulLimits.{IsLawful}
use Rattle.xb_model.specs.Lines.{row_line}
use Rattle.xb_model.specs.OnLines.{on_line, whats_from}
use Rattle.xb_model.specs.Records.{Attempt, Train, closes, has_runs, is_timed, pieces_of, record_of, rows_of, runs_of, trains_of}
use Rattle.xb_model.specs.Rows.{LoopRow}
use Rattle.xb_model.specs.Signals.{attempt_signals, digit_signal, when}
use Rattle.xb_model.proofs.Lines.{of_line-on}
use Rattle.xb_model.proofs.OnLines.{image_from-on_lines, on_line-append}
use Rattle.xb_pulse.specs.declared.state.Phase.{Phase as PulsePhase}
use Rattle.xb_pulse.specs.declared.state.Phase.TheVariants as pulse
use Rattle.xb_pulse.specs.Machine.{machine as pulse_machine, phase_after, signals_by}
use Rattle.xb_pulse.proofs.Hearing.{open_record_heard, record_heard}
use Rattle.xb_register.specs.declared.state.Phase.TheVariants.{OnHook}
use Rattle.xb_register.specs.Laws.{is_seizure, seizures}
use Rattle.xb_register.proofs.Attempts.{AllButLastReleased, released-filter, released-pieces_of, signals_and_close}
use Rattle.xb_live.specs.declared.line_hearing.Hearing.{Hearing}
use Rattle.xb_live.specs.Hearings.{after_row, after_signal, after_signals, fresh_hearing, hearing_machine, in_phase}
use Rattle.xb_live.specs.Times.{attempts_on, dialled_on, ms_on}
use Rattle.xb_live.proofs.KeptDigits.{Kept, close, keep, keep_all, kept, of_attempts}

-- what stands on a line, without it
whats-on_line : {A : Type 0} (l : ℕ) (xs : List A) → map (λ (item : On A). item.what) (on_line l xs) ≡ xs
whats-on_line l [] = refl
whats-on_line l (x ∷ xs) = ap (λ items. x ∷ items) (whats-on_line l xs)

-- seizures add up
pub seizures-append : (xs ys : List Signal) → seizures (xs ++ ys) ≡ seizures xs + seizures ys
seizures-append xs ys = ap length (filter-append is_seizure xs ys) ∙ length-append (filter is_seizure xs) (filter is_seizure ys)

module _ (limits : Limits) where
  -- digits and the end of an attempt seize nothing
  no-seizure : (trains : List Train) (timed released : Bool) → seizures (map (digit_signal limits) trains ++ (when timed TimeOut ++ when released Release)) ≡ 0
  no-seizure [] false false = refl
  no-seizure [] true false = refl
  no-seizure [] false true = refl
  no-seizure [] true true = refl
  no-seizure (train ∷ trains) timed released = no-seizure trains timed released

  one-seizure : (attempt : Attempt) → seizures (attempt_signals limits attempt) ≡ 1
  one-seizure attempt = ap suc (no-seizure (trains_of limits attempt.runs) (is_timed limits attempt.runs) attempt.released)

  -- so there are as many as attempts
  seizures-attempts : (attempts : List Attempt) → seizures (signals_and_close limits attempts) ≡ length attempts
  seizures-attempts [] = refl
  seizures-attempts (attempt ∷ more) =
      ap seizures (append_assoc (attempt_signals limits attempt) (flat_map (attempt_signals limits) more) (Close ∷ []))
      ∙ (let parts = seizures-append (attempt_signals limits attempt) (signals_and_close limits more) in
      let one = one-seizure attempt in
      let rest = seizures-attempts more in
      omega (arith, parts, one, rest))

module _ (limits : Limits) (plan : Plan) where
  -- the signals of rows of one line
  abbrev pub said : PulsePhase → List LoopRow → List Signal
  said phase rows = whats_from (phase_after limits) (signals_by limits) phase rows

  abbrev pub kept_of : Hearing → Kept
  kept_of heard = kept heard.register heard.dialled

  -- what signals leave
  signals-kept : (heard : Hearing) (signals : List Signal) → kept_of (after_signals plan heard signals) ≡ keep_all plan (kept_of heard) signals
  signals-kept heard [] = refl
  signals-kept heard (signal ∷ signals) = signals-kept (after_signal plan heard signal) signals

  signals-pulse : (heard : Hearing) (signals : List Signal) → (after_signals plan heard signals).pulse ≡ heard.pulse
  signals-pulse heard [] = refl
  signals-pulse heard (signal ∷ signals) = signals-pulse (after_signal plan heard signal) signals

  pub signals-at : (heard : Hearing) (signals : List Signal) → (after_signals plan heard signals).at ≡ heard.at
  signals-at heard [] = refl
  signals-at heard (signal ∷ signals) = signals-at (after_signal plan heard signal) signals

  -- what rows leave
  rows-pulse : (heard : Hearing) (rows : List LoopRow) → (fold (after_row limits plan) heard rows).pulse ≡ fold (phase_after limits) heard.pulse rows
  rows-pulse heard [] = refl
  rows-pulse heard (row ∷ rows) =
      rows-pulse (after_row limits plan heard row) rows
      ∙ ap (λ phase. fold (phase_after limits) phase rows) (signals-pulse (in_phase limits row heard) (signals_by limits heard.pulse row))

  rows-kept : (heard : Hearing) (rows : List LoopRow) → kept_of (fold (after_row limits plan) heard rows) ≡ keep_all plan (kept_of heard) (said heard.pulse rows)
  rows-kept heard [] = refl
  rows-kept heard (row ∷ rows) =
      let signals : List Signal = signals_by limits heard.pulse row in
      rows-kept (after_row limits plan heard row) rows
      ∙ ap (λ k. keep_all plan k (said (after_row limits plan heard row).pulse rows)) (signals-kept (in_phase limits row heard) signals)
      ∙ ap (λ phase. keep_all plan (keep_all plan (kept_of heard) signals) (said phase rows)) (signals-pulse (in_phase limits row heard) signals)
      ∙ sym (fold-append (keep plan) (kept_of heard) signals (said (phase_after limits heard.pulse row) rows))

  -- a time that stops at the greatest
  abbrev most : ℕ
  most = 2 ^ 64 - 1

  stops : (a b c : ℕ) → min (min (a + b) most + c) most ≡ min (a + (b + c)) most
  stops a b c = grind (arith, nat_tests)

  stays : (a : ℕ) → a ≤ most → a ≡ min (a + 0) most
  stays a within = grind (arith, nat_tests, within)

  rows-at : (heard : Hearing) (rows : List LoopRow) → heard.at ≤ most → (fold (after_row limits plan) heard rows).at ≡ min (heard.at + sum_by (λ (row : LoopRow). row.ms) rows) most
  rows-at heard [] within = stays heard.at within
  rows-at heard (row ∷ rows) within =
      let signals : List Signal = signals_by limits heard.pulse row in
      let next : (after_row limits plan heard row).at ≡ min (heard.at + row.ms) most
      = ap (λ at. min (at + row.ms) most) (signals-at (in_phase limits row heard) signals) in
      rows-at (after_row limits plan heard row) rows (subst (λ at. at ≤ most) (sym next) (bounded (heard.at + row.ms)))
      ∙ ap (λ at. min (at + sum_by (λ (r : LoopRow). r.ms) rows) most) next
      ∙ stops heard.at row.ms (sum_by (λ (r : LoopRow). r.ms) rows)
      ∙ ap (λ sum. min (heard.at + sum) most) (sym (sum_by-cons (λ (r : LoopRow). r.ms) row rows))
    where
      bounded : (n : ℕ) → min n most ≤ most
      bounded n = grind (arith, nat_tests)

  -- what is heard of a line after rows
  abbrev pub heard_after : ℕ → List LoopRow → Hearing
  heard_after l rows = state_after row_line (hearing_machine limits plan) rows l

  pub of_rows : (l : ℕ) (rows : List LoopRow) → heard_after l rows ≡ fold (after_row limits plan) (fresh_hearing limits plan) (rows_of l rows)
  unfolding state_after
  of_rows l rows = refl

  pub at-is : (l : ℕ) (rows : List LoopRow) → (heard_after l rows).at ≡ ms_on l rows
  at-is l rows = ap (λ (heard : Hearing). heard.at) (of_rows l rows) ∙ rows-at (fresh_hearing limits plan) (rows_of l rows) (omega arith)
      ∙ (let sum : ℕ = sum_by (λ (row : LoopRow). row.ms) (rows_of l rows) in
      let all : 0 + sum ≡ sum = omega arith in
      ap (λ n. min n most) all)

  pub pulse-is : (l : ℕ) (rows : List LoopRow) → (heard_after l rows).pulse ≡ fold (phase_after limits) pulse.OnHook (rows_of l rows)
  pulse-is l rows = ap (λ (heard : Hearing). heard.pulse) (of_rows l rows) ∙ rows-pulse (fresh_hearing limits plan) (rows_of l rows)

  -- the signals of a line's rows, by what is heard of its record
  module _ (lawful : IsLawful limits) (l : ℕ) (rows : List LoopRow) where
    abbrev pub own : List Signal
    own = said pulse.OnHook (rows_of l rows)

    abbrev all : List Signal
    all = signals_and_close limits (attempts_on limits l rows)

    on : AllByRecursion (λ row. row_line row ≡ l) (rows_of l rows)
    on = of_line-on row_line l rows

    sends : image_from (pulse_machine limits) pulse.OnHook (rows_of l rows) ≡ on_line l own
    sends = image_from-on_lines row_line pulse.OnHook (phase_after limits) (signals_by limits) l pulse.OnHook (rows_of l rows) on

    pub closed : closes (rows_of l rows) ≡ true → own ≡ all
    closed is =
        sym (whats-on_line l own)
        ∙ ap (map (λ (item : On Signal). item.what)) (sym sends ∙ record_heard limits l (rows_of l rows) lawful on is)
        ∙ whats-on_line l all

    pub open_yet : closes (rows_of l rows) ≡ false → own ++ Close ∷ [] ≡ all
    open_yet is =
        sym (whats-on_line l (own ++ Close ∷ []))
        ∙ ap (map (λ (item : On Signal). item.what))
        (on_line-append l own (Close ∷ []) ∙ ap (λ front. front ++ on_line l (Close ∷ [])) (sym sends) ∙ open_record_heard limits l (rows_of l rows) lawful on is)
        ∙ whats-on_line l all

    -- there are as many seizures as attempts
    pub seizures-own : seizures own ≡ length (attempts_on limits l rows)
    seizures-own =
        ⊎_elim
        (λ is. ap seizures (closed is) ∙ seizures-attempts limits (attempts_on limits l rows))
        (λ is.
        sym (add-zero (seizures own))
        ∙ sym (seizures-append own (Close ∷ []))
        ∙ ap seizures (open_yet is)
        ∙ seizures-attempts limits (attempts_on limits l rows))
        (cases_Bool (closes (rows_of l rows)))

    released : AllButLastReleased (attempts_on limits l rows)
    released =
        released-filter (λ piece. has_runs piece.runs) (pieces_of limits (runs_of (record_of l rows)))
        (released-pieces_of limits (runs_of (record_of l rows)))

    kept-all : (keep_all plan (kept OnHook []) own).dialled ≡ (keep_all plan (kept OnHook []) all).dialled
    kept-all =
        ⊎_elim
        (λ is. ap (λ signals. (keep_all plan (kept OnHook []) signals).dialled) (closed is))
        (λ is.
        let last : Kept = keep_all plan (kept OnHook []) own in
        sym (ap (λ (k : Kept). k.dialled) (fold-append (keep plan) (kept OnHook []) own (Close ∷ [])) ∙ close plan limits last.register last.dialled)
        ∙ ap (λ signals. (keep_all plan (kept OnHook []) signals).dialled) (open_yet is))
        (cases_Bool (closes (rows_of l rows)))

    -- the digits are those that were dialled in the last attempt
    pub dialled-is : (heard_after l rows).dialled ≡ dialled_on plan limits l rows
    dialled-is =
        ap (λ (heard : Hearing). heard.dialled) (of_rows l rows)
        ∙ ap (λ (k : Kept). k.dialled) (rows-kept (fresh_hearing limits plan) (rows_of l rows))
        ∙ kept-all
        ∙ of_attempts plan limits [] (attempts_on limits l rows) released
