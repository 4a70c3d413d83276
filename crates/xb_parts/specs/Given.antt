-- Which lines each page is given.
use Rattle.std.specs.Prelude.{ℕ, ◌≡◌, List, [], ◌∷◌, map, Ok, Option, Some, None}
use Rattle.xb_model.specs.declared.limits.Limits.{Limits}
use Rattle.xb_model.specs.declared.line.TheConstants.{LINES}
use Rattle.xb_model.specs.declared.plan.Plan.{Plan}
use Rattle.xb_model.specs.Page.{page_text}
use Rattle.xb_model.specs.Routing.{AreRoutes, CodedRoute}
use Rattle.xb_model.specs.Rows.{LoopRow}
use Rattle.xb_model.specs.Tapes.{tapes_of}
use Rattle.xb_parts.specs.Parts.{AreAllParts, Part}
use Rattle.xb_parts.specs.declared.range.LineRange.{LineRange}
use Rattle.xb_parts.specs.Joining.{Given, given_with, join_of, lines_taken}
use Rattle.xb_parts.specs.PartPages.{part_page}

-- the ranges of a list, and a page for each, as far as there are pages
abbrev pub given_by_list : List LineRange → List (List ℕ) → List Given
given_by_list ranges [] = []
given_by_list [] (page ∷ pages) = []
given_by_list (range ∷ ranges) (page ∷ pages) = given_with range page ∷ given_by_list ranges pages

-- without a list a page takes the lines from this one up to that of its last entry, and the last page takes
-- all that are left
abbrev pub given_from : ℕ → List (List ℕ) → List Given
given_from first [] = []
given_from first (page ∷ []) = given_with (record { first = first; end = LINES }) page ∷ []
given_from first (page ∷ pages) =
    let lines = lines_taken first page in given_with lines page ∷ given_from lines.end pages

-- what pages are given, by the list if there is one
abbrev pub given_by : Option (List LineRange) → List (List ℕ) → List Given
given_by None pages = given_from 0 pages
given_by (Some ranges) pages = given_by_list ranges pages

-- the pages of the parts of rows make the page of the rows without a list too, by the lines that they take
abbrev pub PagesMakeTheWhole : Type 0
PagesMakeTheWhole =
    (plan : Plan) (limits : Limits) (routes : List CodedRoute) (rows : List LoopRow) (parts : List Part)
    → AreRoutes routes → AreAllParts rows parts
    → join_of (given_from 0 (map (part_page plan limits routes) parts))
    ≡ Ok (page_text (tapes_of plan limits routes rows))
