-- What the four images of rows have to do with tapes.
use Rattle.std.specs.Prelude.{ℕ, ◌≡◌, ◌<◌, List, None}
use Rattle.xb_model.specs.declared.limits.Limits.{Limits}
use Rattle.xb_model.specs.declared.line.TheConstants.{LINES}
use Rattle.xb_model.specs.declared.plan.Plan.{Plan}
use Rattle.xb_model.specs.LawfulLimits.{IsLawful}
use Rattle.xb_model.specs.Lines.{on_line_of, of_line}
use Rattle.xb_model.specs.OnLines.{on_line}
use Rattle.xb_model.specs.Routing.{CodedRoute}
use Rattle.xb_model.specs.Rows.{LoopRow}
use Rattle.xb_model.specs.Tapes.{joined_tape}
use Rattle.xb_closes.specs.Fed.{fed}
use Rattle.xb_images.specs.Images.{serial_image}

-- on each line the four images of the fed rows are the tape of that line's rows
abbrev pub ImagesAreTapes : Type 0
ImagesAreTapes =
    (plan : Plan) (limits : Limits) (routes : List CodedRoute) (rows : List LoopRow) (l : ℕ)
    → IsLawful limits → l < LINES
    → of_line on_line_of l (serial_image plan limits routes (fed rows None)) ≡ on_line l (joined_tape plan limits routes l rows)
