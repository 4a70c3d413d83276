-- What the chain makes of the rows of one line: of rows that have a close, of rows and a close after
-- them, and of the first of some rows.
use Rattle.std.proofs.Common.{◌≡◌, ℕ, true, false, cond, Bool, ◌||◌, ◌==◌, List, [], ◌∷◌, ◌++◌, map, refl, sym, ap, ◌∙◌}
use mathlib.Core.List.{IsPrefix}
use Rattle.std.specs.List.{filter, flat_map, AllByRecursion}
use Rattle.std.proofs.lemmas.List.{same_from_push}
use Rattle.std.proofs.lemmas.List.Folds.{flat_map-map}
use Rattle.xb_model.specs.declared.dialled.Dialled.{Dialled}
use Rattle.xb_model.specs.declared.mark.Mark.{Mark}
use Rattle.xb_model.specs.declared.on.On.{On}
use Rattle.xb_model.specs.declared.signal.Signal.{Signal}
use Rattle.xb_model.specs.declared.signal.Signal.TheVariants.{Close}
use Rattle.xb_model.specs.Keyings.{marks_of}
use Rattle.xb_model.specs.LawfulLimits.{IsLawful}
use Rattle.xb_model.specs.Numbers.{outcome_of, outcomes_of}
use Rattle.xb_model.specs.Records.{Run, Attempt, attempts_of, run_of, is_close, closes, record_up_to_close}
use Rattle.xb_model.specs.Routing.{order_of}
use Rattle.xb_model.specs.Rows.{LoopRow, close_row}
use Rattle.xb_model.specs.Signals.{attempt_signals, signals_of}
use Rattle.xb_model.specs.Image.{image_on}
use Rattle.xb_model.specs.OnLines.{on_line}
use Rattle.xb_model.proofs.OnLines.{on_line-append}
use Rattle.xb_model.proofs.Stateless.{image-stateless}
use Rattle.xb_pulse.specs.Machine.{machine as pulse_machine}
use Rattle.xb_pulse.proofs.Hearing.{record_heard, open_record_heard}
use Rattle.xb_register.specs.Machine.{machine as register_machine}
use Rattle.xb_register.proofs.Attempts.{gives_outcomes}
use Rattle.xb_register.proofs.Outcomes.{outcomes_given-machine}
use Rattle.xb_routes.specs.Table.{Table}
use Rattle.xb_routes.specs.Machine.{machine as translate_machine}
use Rattle.xb_routes.proofs.Translating.{image-machine}
use Rattle.xb_sender.specs.Machine.{machine as sender_machine}
use Rattle.xb_serial.specs.Promises.{is_settled}
use Rattle.xb_serial.proofs.Settled.{settled, record_attempts}
use Rattle.xb_serial.proofs.OneLine.{both_all, image_from-prefix}

-- rows, and a close after them
abbrev pub with_close : ℕ → List LoopRow → List LoopRow
with_close l rows = rows ++ close_row l ∷ []

pub closes-with_close : (l : ℕ) (rows : List LoopRow) → closes (with_close l rows) ≡ true
closes-with_close l [] = refl
closes-with_close l (row ∷ rows) = at (is_close row.contact) (closes-with_close l rows)
  where
    at : (closed : Bool) → closes (with_close l rows) ≡ true → (closed || closes (with_close l rows)) ≡ true
    at true ih = refl
    at false ih = ih

-- they say what the rows say
pub record-with_close : (l : ℕ) (rows : List LoopRow) → record_up_to_close (with_close l rows) ≡ record_up_to_close rows
record-with_close l [] = refl
record-with_close l (row ∷ rows) =
    ap (λ runs. cond (is_close row.contact) [] (cond (row.ms == 0) runs (run_of row.contact row.ms ∷ runs))) (record-with_close l rows)

-- and are on their line
pub is_on-with_close : (l : ℕ) (rows : List LoopRow) → AllByRecursion (λ row. row.line ≡ l) rows → AllByRecursion (λ row. row.line ≡ l) (with_close l rows)
is_on-with_close l rows on = both_all (λ (row : LoopRow). row.line ≡ l) rows (close_row l ∷ []) on (refl, tt)

module _ (table : Table) where
  -- what the last two stages make of outcomes
  abbrev after_register : List (On Dialled) → List (On Mark)
  after_register dialled = image_on sender_machine (image_on (translate_machine table.routes) dialled)

  -- what the last three make of signals
  abbrev after_pulse : List (On Signal) → List (On Mark)
  after_pulse signals = after_register (image_on (register_machine table.plan) signals)

  -- what the four make of rows of one line
  abbrev pub chain : List LoopRow → List (On Mark)
  chain rows = after_pulse (image_on (pulse_machine table.limits) rows)

  -- the tape of a record
  abbrev pub record_tape : List Run → List Mark
  record_tape runs = flat_map (λ entry. entry) (map (λ outcome. marks_of (order_of table.routes outcome)) (outcomes_of table.plan table.limits runs))

  -- outcomes on a line give their marks
  after-outcomes : (l : ℕ) (outcomes : List Dialled) → after_register (on_line l outcomes) ≡ on_line l (flat_map (λ outcome. marks_of (order_of table.routes outcome)) outcomes)
  after-outcomes l outcomes =
      ap (image_on sender_machine) (image-machine table.routes l outcomes)
      ∙ image-stateless marks_of l (map (order_of table.routes) outcomes)
      ∙ ap (on_line l) (flat_map-map marks_of (order_of table.routes) outcomes)

  -- the signals of a record give its tape
  after-signals : (l : ℕ) (runs : List Run) → after_pulse (on_line l (signals_of table.limits runs)) ≡ on_line l (record_tape runs)
  after-signals l runs =
      let outcomes : List Dialled = outcomes_of table.plan table.limits runs in
      ap after_register (gives_outcomes table.plan table.limits l runs)
      ∙ after-outcomes l outcomes
      ∙ ap (on_line l) (sym (flat_map-map (λ ys. ys) (λ outcome. marks_of (order_of table.routes outcome)) outcomes))

  -- rows of one line that have a close give the tape of their record
  pub chain-closed : (l : ℕ) (rows : List LoopRow) → IsLawful table.limits → AllByRecursion (λ row. row.line ≡ l) rows → closes rows ≡ true
      → chain rows ≡ on_line l (record_tape (record_up_to_close rows))
  chain-closed l rows lawful on closed =
      ap after_pulse (record_heard table.limits l rows lawful on closed) ∙ after-signals l (record_up_to_close rows)

  -- the first of some rows give the first of their marks
  pub chain-prefix : (xs ys : List LoopRow) → IsPrefix xs ys → IsPrefix (chain xs) (chain ys)
  chain-prefix xs ys p =
      let r = register_machine table.plan in
      let t = translate_machine table.routes in
      let signals = image_from-prefix (pulse_machine table.limits) (pulse_machine table.limits).start xs ys p in
      let dialled = image_from-prefix r r.start (image_on (pulse_machine table.limits) xs) (image_on (pulse_machine table.limits) ys) signals in
      let orders = image_from-prefix t t.start (image_on r (image_on (pulse_machine table.limits) xs)) (image_on r (image_on (pulse_machine table.limits) ys)) dialled in
      image_from-prefix sender_machine tt (image_on t (image_on r (image_on (pulse_machine table.limits) xs))) (image_on t (image_on r (image_on (pulse_machine table.limits) ys))) orders

  -- the entries of the settled attempts of a record
  abbrev pub settled_entries : List Run → List Mark
  settled_entries runs =
      flat_map (λ attempt. marks_of (order_of table.routes (outcome_of table.plan table.limits attempt.runs)))
      (filter (is_settled table) (attempts_of table.limits runs))

  -- rows of one line that have no close give the entries of its settled attempts
  pub chain-open : (l : ℕ) (rows : List LoopRow) → IsLawful table.limits → AllByRecursion (λ row. row.line ≡ l) rows → closes rows ≡ false
      → chain rows ≡ on_line l (settled_entries (record_up_to_close rows))
  chain-open l rows lawful on open_ =
      let runs : List Run = record_up_to_close rows in
      let attempts : List Attempt = attempts_of table.limits runs in
      let signals : List Signal = flat_map (attempt_signals table.limits) attempts in
      let close : On Signal = record { line = l; what = Close } in
      let sent : image_on (pulse_machine table.limits) rows ≡ on_line l signals =
      (same_from_push (image_on (pulse_machine table.limits) rows) (on_line l signals) close close
      (open_record_heard table.limits l rows lawful on open_ ∙ on_line-append l signals (Close ∷ []))).0 in
      ap after_pulse sent
      ∙ ap after_register (outcomes_given-machine table.plan l signals ∙ ap (on_line l) (record_attempts table runs))
      ∙ after-outcomes l (settled table attempts)
      ∙ ap (on_line l) (flat_map-map (λ outcome. marks_of (order_of table.routes outcome)) (λ attempt. outcome_of table.plan table.limits attempt.runs) (filter (is_settled table) attempts))
