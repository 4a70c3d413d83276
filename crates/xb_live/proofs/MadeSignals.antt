-- What a row makes on its line are the signals that it sends, but for a close.
use Rattle.std.proofs.Common.{◌≡◌, ℕ, eqb, Bool, true, false, List, [], ◌∷◌, ◌++◌, drop, fold, length, map, refl, sym, ap, ◌∙◌, ⊎_elim, append_assoc, append-nil, eq-eqb}
use Rattle.std.proofs.Math.Seq.{drop-append_seam}
use Rattle.std.proofs.lemmas.Bool.{cases_Bool}
use Rattle.std.proofs.lemmas.List.Elements.{filter-append}
use Rattle.std.specs.List.{filter, flat_map}
use Rattle.xb_model.specs.declared.limits.Limits.{Limits}
use Rattle.xb_model.specs.declared.plan.Plan.{Plan}
use Rattle.xb_model.specs.declared.signal.Signal.{Signal}
use Rattle.xb_model.specs.declared.signal.Signal.TheVariants.{Seize, TimeOut, Release, Close}
use Rattle.xb_model.specs.LawfulLimits.{IsLawful}
use Rattle.xb_model.specs.Lines.{row_line}
use Rattle.xb_model.specs.Records.{Attempt, Train, closes, is_timed, rows_of, trains_of}
use Rattle.xb_model.specs.Rows.{LoopRow}
use Rattle.xb_model.specs.Signals.{attempt_signals, digit_signal, when}
use Rattle.xb_model.proofs.Lines.{of_line-append, of_line-here}
use Rattle.xb_pulse.specs.declared.state.Phase.{Phase as PulsePhase}
use Rattle.xb_pulse.specs.declared.state.Phase.TheVariants as pulse
use Rattle.xb_pulse.specs.Machine.{phase_after, signals_by}
use Rattle.xb_register.proofs.Attempts.{signals_and_close}
use Rattle.xb_live.specs.EventObjects.{is_event}
use Rattle.xb_live.specs.Events.{made_by, signals_on}
use Rattle.xb_live.specs.Times.{attempts_on}
use Rattle.xb_live.proofs.HeardRows.{closed, heard_after, open_yet, own, pulse-is, said}

-- no signal of an attempt is a close
module _ (limits : Limits) where
  end-events : (timed released : Bool) → filter is_event (when timed TimeOut ++ when released Release) ≡ when timed TimeOut ++ when released Release
  end-events false false = refl
  end-events true false = refl
  end-events false true = refl
  end-events true true = refl

  later-events : (trains : List Train) (timed released : Bool)
      → filter is_event (map (digit_signal limits) trains ++ (when timed TimeOut ++ when released Release)) ≡ map (digit_signal limits) trains ++ (when timed TimeOut ++ when released Release)
  later-events [] timed released = end-events timed released
  later-events (train ∷ trains) timed released = ap (λ signals. digit_signal limits train ∷ signals) (later-events trains timed released)

  attempt-events : (attempt : Attempt) → filter is_event (attempt_signals limits attempt) ≡ attempt_signals limits attempt
  attempt-events attempt = ap (λ signals. Seize ∷ signals) (later-events (trains_of limits attempt.runs) (is_timed limits attempt.runs) attempt.released)

  -- so without the close after them they are all
  events-of : (attempts : List Attempt) → filter is_event (signals_and_close limits attempts) ≡ flat_map (attempt_signals limits) attempts
  events-of [] = refl
  events-of (attempt ∷ more) =
      ap (filter is_event) (append_assoc (attempt_signals limits attempt) (flat_map (attempt_signals limits) more) (Close ∷ []))
      ∙ filter-append is_event (attempt_signals limits attempt) (signals_and_close limits more)
      ∙ ap (λ front. front ++ filter is_event (signals_and_close limits more)) (attempt-events attempt)
      ∙ ap (λ later. attempt_signals limits attempt ++ later) (events-of more)

module _ (limits : Limits) (plan : Plan) where
  -- the signals of a row more
  said-more : (phase : PulsePhase) (rows : List LoopRow) (row : LoopRow) → said limits plan phase (rows ++ row ∷ []) ≡ said limits plan phase rows ++ signals_by limits (fold (phase_after limits) phase rows) row
  said-more phase [] row = append-nil (signals_by limits phase row)
  said-more phase (first ∷ rows) row =
      ap (λ later. signals_by limits phase first ++ later) (said-more (phase_after limits phase first) rows row)
      ∙ sym (append_assoc (signals_by limits phase first) (said limits plan (phase_after limits phase first) rows)
      (signals_by limits (fold (phase_after limits) (phase_after limits phase first) rows) row))

  module _ (lawful : IsLawful limits) where
    -- what the rows of a line send, but for its close, are the signals of its attempts
    own-events : (l : ℕ) (rows : List LoopRow) → filter is_event (own limits plan lawful l rows) ≡ signals_on limits l rows
    own-events l rows =
        ⊎_elim
        (λ is. ap (filter is_event) (closed limits plan lawful l rows is) ∙ events-of limits (attempts_on limits l rows))
        (λ is.
        sym (append-nil (filter is_event (own limits plan lawful l rows)))
        ∙ sym (filter-append is_event (own limits plan lawful l rows) (Close ∷ []))
        ∙ ap (filter is_event) (open_yet limits plan lawful l rows is)
        ∙ events-of limits (attempts_on limits l rows))
        (cases_Bool (closes (rows_of l rows)))

    -- a row of the line sends what stands after those of the earlier rows
    signals-more : (l : ℕ) (rows : List LoopRow) (row : LoopRow) → eqb (row_line row) l ≡ true
        → signals_on limits l (rows ++ row ∷ []) ≡ signals_on limits l rows ++ filter is_event (signals_by limits (heard_after limits plan l rows).pulse row)
    signals-more l rows row on =
        sym (own-events l (rows ++ row ∷ []))
        ∙ ap (λ rs. filter is_event (said limits plan pulse.OnHook rs))
        (of_line-append row_line l rows (row ∷ []) ∙ ap (λ rs. rows_of l rows ++ rs) (of_line-here row_line l row [] on))
        ∙ ap (filter is_event) (said-more pulse.OnHook (rows_of l rows) row)
        ∙ filter-append is_event (own limits plan lawful l rows) (signals_by limits (fold (phase_after limits) pulse.OnHook (rows_of l rows)) row)
        ∙ ap (λ front. front ++ filter is_event (signals_by limits (fold (phase_after limits) pulse.OnHook (rows_of l rows)) row)) (own-events l rows)
        ∙ ap (λ phase. signals_on limits l rows ++ filter is_event (signals_by limits phase row)) (sym (pulse-is limits plan l rows))

    -- so these are what it makes
    pub made-more : (rows : List LoopRow) (row : LoopRow) → signals_on limits row.line (rows ++ row ∷ []) ≡ signals_on limits row.line rows ++ made_by limits rows row
    made-more rows row =
        let more = signals-more row.line rows row (eq-eqb row.line row.line refl) in
        let sent : List Signal = filter is_event (signals_by limits (heard_after limits plan row.line rows).pulse row) in
        more ∙ ap (λ signals. signals_on limits row.line rows ++ signals)
        (sym (ap (drop (length (signals_on limits row.line rows))) more ∙ drop-append_seam (signals_on limits row.line rows) sent))

    pub made-is : (rows : List LoopRow) (row : LoopRow) → made_by limits rows row ≡ filter is_event (signals_by limits (heard_after limits plan row.line rows).pulse row)
    made-is rows row =
        let more = signals-more row.line rows row (eq-eqb row.line row.line refl) in
        let sent : List Signal = filter is_event (signals_by limits (heard_after limits plan row.line rows).pulse row) in
        ap (drop (length (signals_on limits row.line rows))) more ∙ drop-append_seam (signals_on limits row.line rows) sent
