use Rattle.std.proofs.Common.{◌≡◌, ℕ, ◌<◌, List, ap, ◌∙◌}
use Rattle.std.proofs.lemmas.Result.{IfOk-weaker}
use Rattle.xb_model.specs.declared.dialled.Dialled.{Dialled}
use Rattle.xb_model.specs.declared.line.TheConstants.{LINES}
use Rattle.xb_model.specs.declared.on.On.{On}
use Rattle.xb_model.specs.Lines.{on_line_of}
use Rattle.xb_model.specs.Records.{rows_of}
use Rattle.xb_model.specs.Tapes.{joined_tape}
use Rattle.xb_model.specs.Image.{image}
use Rattle.xb_model.specs.OnLines.{on_line}
use Rattle.xb_routes.specs.Machine.{machine as translate_machine}
use Rattle.xb_sender.specs.Machine.{machine as sender_machine}
use Rattle.xb_images.specs.Images.{closed_rows, serial_image}
use Rattle.xb_images.proofs.Chain.{chain, chain-closed}
use Rattle.xb_images.proofs.LineTapes.{marks_at-made, entries-made, tapes-made}
use Rattle.xb_serial.proofs.serial.key_serial.Goals as goal

-- the marks are what the stages make of the rows and a close of each line
marks_are : (c : goal.After-drop-marks) → c.deref.result.now ≡ serial_image c.args.table.now.plan c.args.table.now.limits c.args.table.now.routes (closed_rows c.args.rows.now)
marks_are c =
    c.deref.ensures.value
    ∙ c.in_ok-marks.ensures
    ∙ ap (λ (dialled : List (On Dialled)). image on_line_of sender_machine (image on_line_of (translate_machine c.args.table.now.routes) dialled)) c.in_ok-dialled.ensures.dialled

-- of each line they make its tape
made : (c : goal.After-drop-marks) → (l : ℕ) → l < LINES
    → chain c.args.table.now.plan c.args.table.now.limits c.args.table.now.routes (rows_of l (closed_rows c.args.rows.now))
    ≡ on_line l (joined_tape c.args.table.now.plan c.args.table.now.limits c.args.table.now.routes l c.args.rows.now)
made c l below = chain-closed c.args.table.now.plan c.args.table.now.limits c.args.table.now.routes l c.args.rows.now c.dialled_of_rows.ensures.lawful below

pub returns-clause-tapes : goal.returns-clause-tapes
returns-clause-tapes c =
    IfOk-weaker c.tapes_of_marks.result _ _
    (λ tapes are. tapes-made c.args.table.now.plan c.args.table.now.limits c.args.table.now.routes (closed_rows c.args.rows.now) c.args.rows.now (made c) tapes c.deref.result.now are (marks_are c))
    c.tapes_of_marks.ensures

pub returns-clause-marks : goal.returns-clause-marks
returns-clause-marks c =
    IfOk-weaker c.tapes_of_marks.result _ _
    (λ tapes are. marks_at-made c.args.table.now.plan c.args.table.now.limits c.args.table.now.routes (closed_rows c.args.rows.now) c.args.rows.now (made c) tapes c.deref.result.now are (marks_are c))
    c.tapes_of_marks.ensures

pub returns-clause-entries : goal.returns-clause-entries
returns-clause-entries c =
    IfOk-weaker c.tapes_of_marks.result _ _
    (λ tapes are. entries-made c.args.table.now.plan c.args.table.now.limits c.args.table.now.routes (closed_rows c.args.rows.now) c.args.rows.now (made c) tapes c.deref.result.now are (marks_are c))
    c.tapes_of_marks.ensures
