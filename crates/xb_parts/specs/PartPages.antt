-- The pages of parts, and the page of all rows.
use Rattle.std.specs.Prelude.{◌≡◌, ℕ, List, ◌++◌, map, sum_by}
use Rattle.std.specs.List.{flat_map}
use Rattle.xb_model.specs.declared.limits.Limits.{Limits}
use Rattle.xb_model.specs.declared.plan.Plan.{Plan}
use Rattle.xb_model.specs.Page.{page_text, totals_text}
use Rattle.xb_model.specs.Routing.{CodedRoute}
use Rattle.xb_model.specs.Rows.{LoopRow}
use Rattle.xb_model.specs.Tapes.{tapes_of}
use Rattle.xb_parts.specs.Parts.{AreAllParts, Part}
use Rattle.xb_page.specs.Sheets.{Sheet, sheet_of}

-- the sheet of a part
abbrev pub part_sheet : Plan → Limits → List CodedRoute → Part → Sheet
part_sheet plan limits routes part = sheet_of (tapes_of plan limits routes part.rows)

-- the page of a part
abbrev pub part_page : Plan → Limits → List CodedRoute → Part → List ℕ
part_page plan limits routes part = page_text (tapes_of plan limits routes part.rows)

-- the page of all rows is the entries of the parts' pages, part by part, and the sums of their totals
abbrev pub PagesJoin : Type 0
PagesJoin =
    (plan : Plan) (limits : Limits) (routes : List CodedRoute) (rows : List LoopRow) (parts : List Part)
    → AreAllParts rows parts
    → let sheets = map (part_sheet plan limits routes) parts in
    page_text (tapes_of plan limits routes rows)
    ≡ flat_map (λ sheet. sheet.entries) sheets
    ++ totals_text (sum_by (λ sheet. sheet.keyed) sheets) (sum_by (λ sheet. sheet.refused) sheets)
