-- A row brings one outcome at most, and its marks are those of the outcome.
use Rattle.std.proofs.Common.{◌≡◌, ℕ, ◌≤◌, ◌==◌, Bool, List, [], ◌∷◌, ◌++◌, fold, length, Option, Some, None, nat_le, refl, sym, ap, ◌∙◌, append-nil, arith}
use Rattle.std.specs.List.{flat_map}
use Rattle.std.specs.Option.{option_to_list}
use Rattle.std.proofs.lemmas.Bool.{cond_both}
use Rattle.xb_model.specs.declared.limits.Limits.{Limits}
use Rattle.xb_model.specs.declared.plan.Plan.{Plan}
use Rattle.xb_model.specs.declared.row.Contact.{Contact}
use Rattle.xb_model.specs.declared.row.Contact.TheVariants.{Make, Brk}
use Rattle.xb_model.specs.declared.row.Contact.TheVariants as contacts
use Rattle.xb_model.specs.declared.signal.Signal.{Signal}
use Rattle.xb_model.specs.declared.signal.Signal.TheVariants.{Seize, Digit, TimeOut, Release, Close}
use Rattle.xb_model.specs.declared.dialled.Dialled.{Dialled}
use Rattle.xb_model.specs.declared.dialled.Dialled.TheVariants.{Number}
use Rattle.xb_model.specs.Keyings.{marks_of}
use Rattle.xb_model.specs.Plans.{plan_len}
use Rattle.xb_model.specs.Routing.{order_of}
use Rattle.xb_model.specs.Rows.{LoopRow}
use Rattle.xb_model.specs.TwoOfFive.{digit_of_pattern, pattern_of_count}
use Rattle.xb_model.specs.OnLines.{on_line}
use Rattle.xb_model.proofs.OnLines.{image_from-whats}
use Rattle.xb_pulse.specs.declared.state.Phase.{Phase as PulsePhase}
use Rattle.xb_pulse.specs.declared.state.Phase.TheVariants as pulse
use Rattle.xb_pulse.specs.declared.state.Tally.{Tally}
use Rattle.xb_pulse.specs.Machine.{enter as enter_phase, with_first, longer, with_break, judge_timeout, judge_pause, take_make, lengthen_break, release_at, judge_release, take_close, take_row, signals_by}
use Rattle.xb_register.specs.declared.state.Phase.{Phase}
use Rattle.xb_register.specs.declared.state.Phase.TheVariants.{OnHook, Listening, Done}
use Rattle.xb_register.specs.Machine.{machine, reaches, enter, give, store, advance, phase_after, outcomes_by}
use Rattle.xb_register.proofs.Outcomes.{outcomes_from}
use Rattle.xb_routes.specs.Table.{Table}
use Rattle.xb_serial.specs.declared.line.Line.{Line}
use Rattle.xb_serial.specs.Chain.{keyed, marks_of_row, outcomes_of_row}

module _ (plan : Plan) where
  -- these signals bring one outcome at most, in whatever phase they come
  abbrev BringOneAtMost : List Signal → Type 0
  BringOneAtMost signals = (q : Phase) → length (outcomes_from plan q signals) ≤ 1

  one_or_none : (o : Option Dialled) → length (option_to_list o ++ []) ≤ 1
  one_or_none None = omega arith
  one_or_none (Some outcome) = omega arith

  none : BringOneAtMost []
  none q = omega arith

  single : (signal : Signal) → BringOneAtMost (signal ∷ [])
  single signal q = one_or_none (advance plan q signal).outcome

  seize_and_time_out : BringOneAtMost (Seize ∷ TimeOut ∷ [])
  seize_and_time_out OnHook = omega arith
  seize_and_time_out (Listening digits) = omega arith
  seize_and_time_out Done = omega arith

  -- a digit, and a time-out after it
  store_and_time_out : (digits : List ℕ) (o : Option ℕ) → length (option_to_list (store plan digits o).outcome ++ outcomes_from plan (store plan digits o).phase (TimeOut ∷ [])) ≤ 1
  store_and_time_out digits None = omega arith
  store_and_time_out digits (Some d) =
      let more : List ℕ = digits ++ d ∷ [] in
      cond_both (reaches (plan_len plan more) (length more)) (give (Number more) Done) (enter (Listening more))
      (λ step. length (option_to_list step.outcome ++ outcomes_from plan step.phase (TimeOut ∷ [])) ≤ 1) (λ _. omega arith) (λ _. omega arith)

  digit_and_time_out : (count : ℕ) (bad : Bool) → BringOneAtMost (Digit count bad ∷ TimeOut ∷ [])
  digit_and_time_out count bad OnHook = omega arith
  digit_and_time_out count bad (Listening digits) = store_and_time_out digits (digit_of_pattern (pattern_of_count count bad))
  digit_and_time_out count bad Done = omega arith

  module _ (limits : Limits) where
    timeout_after : (signal : Signal) (total : ℕ) → BringOneAtMost (signal ∷ TimeOut ∷ []) → BringOneAtMost (with_first signal (judge_timeout limits total)).sent.items
    timeout_after signal total both =
        cond_both (nat_le limits.timeout total) (with_first TimeOut (enter_phase (pulse.TimedOut 0))) (enter_phase (pulse.BetweenTrains total))
        (λ step. BringOneAtMost (with_first signal step).sent.items) (λ _. both) (λ _. single signal)

    timeout_alone : (total : ℕ) → BringOneAtMost (judge_timeout limits total).sent.items
    timeout_alone total =
        cond_both (nat_le limits.timeout total) (with_first TimeOut (enter_phase (pulse.TimedOut 0))) (enter_phase (pulse.BetweenTrains total))
        (λ step. BringOneAtMost step.sent.items) (λ _. single TimeOut) (λ _. none)

    pause_brings : (total : ℕ) (tally : Tally) → BringOneAtMost (judge_pause limits total tally).sent.items
    pause_brings total tally =
        cond_both (nat_le limits.pause total) (with_first (Digit tally.breaks tally.bad) (judge_timeout limits total)) (enter_phase (pulse.InMake total tally))
        (λ step. BringOneAtMost step.sent.items) (λ _. timeout_after (Digit tally.breaks tally.bad) total (digit_and_time_out tally.breaks tally.bad)) (λ _. none)

    make_brings : (phase : PulsePhase) (ms : ℕ) → BringOneAtMost (take_make limits phase ms).sent.items
    make_brings pulse.OnHook ms = timeout_after Seize (longer 0 ms) seize_and_time_out
    make_brings (pulse.BetweenTrains total) ms = timeout_alone (longer total ms)
    make_brings (pulse.InBreak total tally) ms = pause_brings (longer 0 ms) (with_break limits total tally)
    make_brings (pulse.InMake total tally) ms = pause_brings (longer total ms) tally
    make_brings (pulse.TimedOut total) ms = none
    make_brings pulse.Closed ms = none

    release_brings : (total : ℕ) (phase : PulsePhase) → BringOneAtMost (release_at limits total phase).sent.items
    release_brings total phase =
        cond_both (nat_le limits.release total) (with_first Release (enter_phase pulse.OnHook)) (enter_phase phase)
        (λ step. BringOneAtMost step.sent.items) (λ _. single Release) (λ _. none)

    judge_brings : (phase : PulsePhase) → BringOneAtMost (judge_release limits phase).sent.items
    judge_brings pulse.OnHook = none
    judge_brings (pulse.BetweenTrains total) = none
    judge_brings (pulse.InBreak total tally) = release_brings total (pulse.InBreak total tally)
    judge_brings (pulse.InMake total tally) = none
    judge_brings (pulse.TimedOut total) = release_brings total (pulse.TimedOut total)
    judge_brings pulse.Closed = none

    close_brings : (phase : PulsePhase) → BringOneAtMost (take_close phase).sent.items
    close_brings pulse.OnHook = single Close
    close_brings (pulse.BetweenTrains total) = single Close
    close_brings (pulse.InBreak total tally) = single Close
    close_brings (pulse.InMake total tally) = single Close
    close_brings (pulse.TimedOut total) = single Close
    close_brings pulse.Closed = none

    row_brings : (phase : PulsePhase) (contact : Contact) (ms : ℕ) → BringOneAtMost (take_row limits phase contact ms).sent.items
    row_brings phase Make ms = cond_both (ms == 0) (enter_phase phase) (take_make limits phase ms) (λ step. BringOneAtMost step.sent.items) (λ _. none) (λ _. make_brings phase ms)
    row_brings phase Brk ms = cond_both (ms == 0) (enter_phase phase) (judge_release limits (lengthen_break limits phase ms)) (λ step. BringOneAtMost step.sent.items) (λ _. none) (λ _. judge_brings (lengthen_break limits phase ms))
    row_brings phase contacts.Close ms = close_brings phase

module _ (table : Table) where
  -- what comes of attempts by a row are, on its line, the outcomes that its signals bring
  pub row_outcomes : (state : Line) (row : LoopRow)
      → outcomes_of_row table state row ≡ on_line row.line (outcomes_from table.plan state.register (signals_by table.limits state.pulse row))
  row_outcomes state row =
      image_from-whats OnHook (phase_after table.plan) (outcomes_by table.plan) row.line state.register (signals_by table.limits state.pulse row)

  -- whatever is known of the line, they are one at most
  pub one_at_most : (state : Line) (row : LoopRow)
      → length (outcomes_from table.plan state.register (signals_by table.limits state.pulse row)) ≤ 1
  one_at_most state row = row_brings table.plan table.limits state.pulse row.contact row.ms state.register

  -- the register's phase after signals of one line
  pub fold-on_line : (l : ℕ) (phase : Phase) (signals : List Signal)
      → fold (machine table.plan).next phase (on_line l signals) ≡ fold (phase_after table.plan) phase signals
  fold-on_line l phase [] = refl
  fold-on_line l phase (signal ∷ signals) = fold-on_line l (phase_after table.plan phase signal) signals

  -- the marks of a row that brings this outcome
  pub one_entry : (state : Line) (row : LoopRow) (dialled : Dialled)
      → on_line row.line (dialled ∷ []) ≡ outcomes_of_row table state row
      → on_line row.line (marks_of (order_of table.routes dialled)) ≡ marks_of_row table state row
  one_entry state row dialled e = sym (append-nil _) ∙ ap (flat_map (keyed table)) e

  -- a row that brings no outcome gives no mark
  pub no_entry : (state : Line) (row : LoopRow) → [] ≡ outcomes_of_row table state row → marks_of_row table state row ≡ []
  no_entry state row e = ap (flat_map (keyed table)) (sym e)
