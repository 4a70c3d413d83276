-- The four stages, one after another, on one line.
use Rattle.std.proofs.Common.{◌≡◌, ℕ, ◌<◌, List, [], ◌∷◌, ◌++◌, map, None, refl, sym, ap, ◌∙◌}
use Rattle.std.specs.List.{flat_map, AllByRecursion}
use Rattle.std.proofs.lemmas.List.Folds.{flat_map-map}
use Rattle.xb_model.specs.declared.limits.Limits.{Limits}
use Rattle.xb_model.specs.declared.line.TheConstants.{LINES}
use Rattle.xb_model.specs.declared.on.On.{On}
use Rattle.xb_model.specs.declared.mark.Mark.{Mark}
use Rattle.xb_model.specs.declared.plan.Plan.{Plan}
use Rattle.xb_model.specs.LawfulLimits.{IsLawful}
use Rattle.xb_model.specs.Rows.{LoopRow, close_row}
use Rattle.xb_model.specs.Records.{Run, rows_of, record_up_to_close}
use Rattle.xb_model.specs.Numbers.{outcomes_of}
use Rattle.xb_model.specs.Signals.{signals_of}
use Rattle.xb_model.specs.Routing.{CodedRoute, order_of}
use Rattle.xb_model.specs.Keyings.{marks_of}
use Rattle.xb_model.specs.Tapes.{joined_tape}
use Rattle.xb_model.specs.Image.{image_on}
use Rattle.xb_model.specs.OnLines.{on_line}
use Rattle.xb_model.proofs.Lines.{of_line-on}
use Rattle.xb_model.proofs.Stateless.{image-stateless}
use Rattle.xb_pulse.specs.Machine.{machine as pulse_machine}
use Rattle.xb_pulse.proofs.Hearing.{record_heard}
use Rattle.xb_register.specs.Machine.{machine as register_machine}
use Rattle.xb_register.proofs.Attempts.{gives_outcomes}
use Rattle.xb_routes.specs.Machine.{machine as translate_machine}
use Rattle.xb_routes.proofs.Translating.{image-machine}
use Rattle.xb_sender.specs.Machine.{machine as sender_machine}
use Rattle.xb_closes.specs.Closed.{closed_once}
use Rattle.xb_closes.specs.Fed.{fed}
use Rattle.xb_model.specs.Lines.{row_line}
use Rattle.xb_images.proofs.ClosedOnce.{closes-once, record-once, is_on-once}
use Rattle.xb_closes.proofs.FedRows.{rows_of-fed}
use Rattle.xb_images.specs.Images.{closed_rows}
use Rattle.xb_images.proofs.ClosedAll.{closes-closed, record-closed, is_on-closed, rows_of-closed}

module _ (plan : Plan) (limits : Limits) (routes : List CodedRoute) where
  -- what the four stages make of rows of one line
  abbrev pub chain : List LoopRow → List (On Mark)
  chain rows =
      image_on sender_machine (image_on (translate_machine routes) (image_on (register_machine plan) (image_on (pulse_machine limits) rows)))

  -- the marks of a record
  abbrev record_marks : List Run → List Mark
  record_marks runs = flat_map (λ entry. entry) (map (λ outcome. marks_of (order_of routes outcome)) (outcomes_of plan limits runs))

  -- what the last three make of its signals
  chain-signals : (l : ℕ) (runs : List Run)
      → image_on sender_machine (image_on (translate_machine routes) (image_on (register_machine plan) (on_line l (signals_of limits runs)))) ≡ on_line l (record_marks runs)
  chain-signals l runs =
      ap (λ xs. image_on sender_machine (image_on (translate_machine routes) xs)) (gives_outcomes plan limits l runs)
      ∙ ap (λ xs. image_on sender_machine xs) (image-machine routes l (outcomes_of plan limits runs))
      ∙ image-stateless marks_of l (map (order_of routes) (outcomes_of plan limits runs))
      ∙ ap (λ marks. on_line l marks)
      (flat_map-map marks_of (order_of routes) (outcomes_of plan limits runs)
      ∙ sym (flat_map-map (λ ys. ys) (λ outcome. marks_of (order_of routes outcome)) (outcomes_of plan limits runs)))

  -- what they make of rows of one line, closed once
  chain-once : (l : ℕ) (rows : List LoopRow) → IsLawful limits → AllByRecursion (λ row. row.line ≡ l) rows
      → chain (closed_once l rows) ≡ on_line l (record_marks (record_up_to_close rows))
  chain-once l [] lawful on = refl
  chain-once l (row ∷ rows) lawful on =
      ap (λ xs. image_on sender_machine (image_on (translate_machine routes) (image_on (register_machine plan) xs)))
      (record_heard limits l (closed_once l (row ∷ rows)) lawful (is_on-once l (row ∷ rows) on) (closes-once l row rows))
      ∙ chain-signals l (record_up_to_close (closed_once l (row ∷ rows)))
      ∙ ap (λ runs. on_line l (record_marks runs)) (record-once l (row ∷ rows))

  -- the four stages make of a line's fed rows the line's tape
  pub chain-fed : (l : ℕ) (rows : List LoopRow) → IsLawful limits → l < LINES
      → chain (rows_of l (fed rows None)) ≡ on_line l (joined_tape plan limits routes l rows)
  chain-fed l rows lawful below =
      ap chain (rows_of-fed l rows below)
      ∙ chain-once l (rows_of l rows) lawful (of_line-on row_line l rows)

  -- so they do of its rows and a close of each line after them
  pub chain-closed : (l : ℕ) (rows : List LoopRow) → IsLawful limits → l < LINES
      → chain (rows_of l (closed_rows rows)) ≡ on_line l (joined_tape plan limits routes l rows)
  chain-closed l rows lawful below =
      let own : List LoopRow = rows_of l rows in
      ap chain (rows_of-closed l rows below)
      ∙ ap (λ xs. image_on sender_machine (image_on (translate_machine routes) (image_on (register_machine plan) xs)))
      (record_heard limits l (own ++ close_row l ∷ []) lawful (is_on-closed l own (of_line-on row_line l rows)) (closes-closed l own))
      ∙ chain-signals l (record_up_to_close (own ++ close_row l ∷ []))
      ∙ ap (λ runs. on_line l (record_marks runs)) (record-closed l own)
