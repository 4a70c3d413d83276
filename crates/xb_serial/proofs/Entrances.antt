-- The two entrances of a line agree.
use Rattle.std.proofs.Common.{◌≡◌, ℕ, List, [], ◌∷◌, ◌++◌, fold, map, refl, sym, ap, ◌∙◌, append_assoc, Option, Some, None}
use Rattle.std.specs.Prelude.{IfNone}
use Rattle.std.specs.List.{AllByRecursion, flat_map}
use Rattle.std.proofs.lemmas.List.{map-append}
use Rattle.std.proofs.lemmas.List.Concat.{flat_map-append}
use Rattle.std.proofs.lemmas.List.Folds.{flat_map-map}
use Rattle.std.proofs.lemmas.List.Sums.{fold-append}
use Rattle.xb_model.specs.declared.dialled.Dialled.{Dialled}
use Rattle.xb_model.specs.declared.mark.Mark.{Mark}
use Rattle.xb_model.specs.declared.on.On.{On}
use Rattle.xb_model.specs.declared.signal.Signal.{Signal}
use Rattle.xb_model.specs.Image.{image_from, image_on}
use Rattle.xb_model.specs.Lines.{row_line}
use Rattle.xb_model.specs.Numbers.{outcomes_of}
use Rattle.xb_model.specs.OnLines.{on_line}
use Rattle.xb_model.specs.Records.{record_of, Run}
use Rattle.xb_model.specs.Rows.{LoopRow}
use Rattle.xb_model.specs.Signals.{signals_of}
use Rattle.xb_model.proofs.OnLines.{on_line-append}
use Rattle.xb_pulse.specs.declared.state.PulseState.{PulseState}
use Rattle.xb_pulse.specs.Machine.{machine as pulse_machine, phase_after as pulse_after, signals_by}
use Rattle.xb_register.specs.declared.state.Phase.TheVariants.{OnHook}
use Rattle.xb_register.specs.declared.state.RegisterState.{RegisterState}
use Rattle.xb_register.specs.Machine.{outcomes_by, phase_after}
use Rattle.xb_register.proofs.Attempts.{gives_outcomes}
use Rattle.xb_register.proofs.Outcomes.{outcomes_given-machine}
use Rattle.xb_routes.specs.Table.{Table}
use Rattle.xb_serial.specs.declared.line.Line.{Line}
use Rattle.xb_serial.specs.Chain.{fresh_line, keyed, live_machine, marks_of_row}
use Rattle.xb_serial.specs.Entrances.{entry_of, outcomes_from, marks_from, marks_of_signal, signal_machine, signals_sent, EntrancesAgree}
use Rattle.xb_serial.specs.Promises.{tape_on}
use Rattle.xb_serial.proofs.Fusion.{fusion-one}
use Rattle.xb_serial.proofs.OneOutcome.{fold-on_line, row_outcomes}

-- what is put on a line, taken from it again
whats-on_line : {A : Type 0} (l : ℕ) (whats : List A) → map (λ (item : On A). item.what) (on_line l whats) ≡ whats
whats-on_line l [] = refl
whats-on_line l (what ∷ whats) = ap (λ more. what ∷ more) (whats-on_line l whats)

module _ (table : Table) where
  -- outcomes on a line give their marks on it
  pub keyed-on_line : (l : ℕ) (outcomes : List Dialled) → flat_map (keyed table) (on_line l outcomes) ≡ on_line l (flat_map (entry_of table) outcomes)
  keyed-on_line l [] = refl
  keyed-on_line l (outcome ∷ outcomes) =
      ap (λ marks. on_line l (entry_of table outcome) ++ marks) (keyed-on_line l outcomes)
      ∙ sym (on_line-append l (entry_of table outcome) (flat_map (entry_of table) outcomes))

  -- the marks of a row are those of the signals that it sends
  pub row_marks : (state : Line) (row : LoopRow)
      → on_line row.line (marks_from table state.register (signals_by table.limits state.pulse row)) ≡ marks_of_row table state row
  row_marks state row =
      let sent : List Signal = signals_by table.limits state.pulse row in
      sym (keyed-on_line row.line (outcomes_from table state.register sent))
      ∙ ap (flat_map (keyed table)) (sym (row_outcomes table state row))

  -- a row gives nothing where its signals don't
  pub no_marks : {X : Type 0} (state : Line) (row : LoopRow) (o : Option X)
      → IfNone o (marks_from table state.register (signals_by table.limits state.pulse row) ≡ []) → IfNone o (marks_of_row table state row ≡ [])
  no_marks state row None e = sym (row_marks state row) ∙ ap (on_line row.line) e
  no_marks state row (Some x) e = tt

  -- signals one by one give the marks of them all
  pub one_by_one : (state : Line) (signals : List Signal) → image_from (signal_machine table) state signals ≡ marks_from table state.register signals
  one_by_one state [] = refl
  one_by_one state (signal ∷ signals) =
      let m = signal_machine table in
      ap (λ marks. m.outs state signal ++ marks) (one_by_one (m.next state signal) signals)
      ∙ sym (flat_map-append (entry_of table) _ (outcomes_from table (phase_after table.plan state.register signal) signals))

  -- and leave the register where they all leave it
  pub register-one_by_one : (state : Line) (signals : List Signal)
      → (let after = fold (signal_machine table).next state signals in after.register) ≡ fold (phase_after table.plan) state.register signals
  register-one_by_one state [] = refl
  register-one_by_one state (signal ∷ signals) = register-one_by_one ((signal_machine table).next state signal) signals

  -- the signals that rows of one line send, from a state of its loop on
  abbrev sent_from : PulseState → List LoopRow → List Signal
  sent_from pulse rows = map (λ (signal : On Signal). signal.what) (image_from (pulse_machine table.limits) pulse rows)

  -- those of a row come before those of the rows after it
  sent-more : (pulse : PulseState) (row : LoopRow) (rows : List LoopRow)
      → sent_from pulse (row ∷ rows) ≡ signals_by table.limits pulse row ++ sent_from (pulse_after table.limits pulse row) rows
  sent-more pulse row rows =
      map-append (λ (signal : On Signal). signal.what) (on_line row.line (signals_by table.limits pulse row)) (image_from (pulse_machine table.limits) (pulse_after table.limits pulse row) rows)
      ∙ ap (λ signals. signals ++ sent_from (pulse_after table.limits pulse row) rows) (whats-on_line row.line (signals_by table.limits pulse row))

  -- the outcomes of signals, and of more
  pub outcomes-append : (register : RegisterState) (xs ys : List Signal)
      → outcomes_from table register (xs ++ ys) ≡ outcomes_from table register xs ++ outcomes_from table (fold (phase_after table.plan) register xs) ys
  outcomes-append register [] ys = refl
  outcomes-append register (x ∷ xs) ys =
      ap (λ outcomes. outcomes_by table.plan register x ++ outcomes) (outcomes-append (phase_after table.plan register x) xs ys)
      ∙ sym (append_assoc (outcomes_by table.plan register x) (outcomes_from table (phase_after table.plan register x) xs) _)

  -- so are their marks
  pub marks-append : (register : RegisterState) (xs ys : List Signal)
      → marks_from table register (xs ++ ys) ≡ marks_from table register xs ++ marks_from table (fold (phase_after table.plan) register xs) ys
  marks-append register xs ys =
      ap (flat_map (entry_of table)) (outcomes-append register xs ys)
      ∙ flat_map-append (entry_of table) (outcomes_from table register xs) (outcomes_from table (fold (phase_after table.plan) register xs) ys)

  -- the signals that rows of one line send give the marks of the rows
  rows_as_signals : (l : ℕ) (state : Line) (rows : List LoopRow) → AllByRecursion (λ row. row_line row ≡ l) rows
      → on_line l (marks_from table state.register (sent_from state.pulse rows)) ≡ image_from (live_machine table) state rows
  rows_as_signals l state [] on = refl
  rows_as_signals l state (row ∷ rows) on =
      let now : List Signal = signals_by table.limits state.pulse row in
      let later : List Signal = sent_from (pulse_after table.limits state.pulse row) rows in
      let register : RegisterState = fold (phase_after table.plan) state.register now in
      let after : Line = (live_machine table).next state row in
      let same : after.register ≡ register = fold-on_line table row.line state.register now in
      ap (λ signals. on_line l (marks_from table state.register signals)) (sent-more state.pulse row rows)
      ∙ ap (on_line l) (marks-append state.register now later)
      ∙ on_line-append l (marks_from table state.register now) (marks_from table register later)
      ∙ ap (λ k. on_line k (marks_from table state.register now) ++ on_line l (marks_from table register later)) (sym on.0)
      ∙ ap (λ marks. marks ++ on_line l (marks_from table register later)) (row_marks state row)
      ∙ ap (λ r. marks_of_row table state row ++ on_line l (marks_from table r later)) (sym same)
      ∙ ap (λ marks. marks_of_row table state row ++ marks) (rows_as_signals l after rows on.1)

  -- and leave the register as the rows do
  registers_agree : (state : Line) (rows : List LoopRow)
      → fold (phase_after table.plan) state.register (sent_from state.pulse rows) ≡ (let after = fold (live_machine table).next state rows in after.register)
  registers_agree state [] = refl
  registers_agree state (row ∷ rows) =
      let now : List Signal = signals_by table.limits state.pulse row in
      let later : List Signal = sent_from (pulse_after table.limits state.pulse row) rows in
      let after : Line = (live_machine table).next state row in
      ap (fold (phase_after table.plan) state.register) (sent-more state.pulse row rows)
      ∙ fold-append (phase_after table.plan) state.register now later
      ∙ ap (λ r. fold (phase_after table.plan) r later) (sym (fold-on_line table row.line state.register now))
      ∙ registers_agree after rows

  -- the signals of a record give its outcomes
  record_outcomes : (runs : List Run) → outcomes_from table OnHook (signals_of table.limits runs) ≡ outcomes_of table.plan table.limits runs
  record_outcomes runs =
      sym (whats-on_line 0 (outcomes_from table OnHook (signals_of table.limits runs)))
      ∙ ap (map (λ (item : On Dialled). item.what))
      (sym (outcomes_given-machine table.plan 0 (signals_of table.limits runs)) ∙ gives_outcomes table.plan table.limits 0 runs)
      ∙ whats-on_line 0 (outcomes_of table.plan table.limits runs)

  pub entrances_agree : EntrancesAgree table
  entrances_agree = record {
    whole = λ l rows.
        let runs : List Run = record_of l rows in
        one_by_one (fresh_line table) (signals_of table.limits runs)
        ∙ ap (flat_map (entry_of table)) (record_outcomes runs)
        ∙ sym (flat_map-map (λ entry. entry) (entry_of table) (outcomes_of table.plan table.limits runs));
    so_far = λ l rows on.
        ap (on_line l) (one_by_one (fresh_line table) (signals_sent table rows))
        ∙ rows_as_signals l (fresh_line table) rows on
        ∙ fusion-one table l rows on;
    register = λ l rows on.
        register-one_by_one (fresh_line table) (signals_sent table rows)
        ∙ registers_agree (fresh_line table) rows;
  }
