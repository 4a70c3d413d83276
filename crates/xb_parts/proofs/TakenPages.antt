-- The pages of parts make the page of the whole by the lines that they take.
use Rattle.std.proofs.Common.{◌≡◌, ◌≤◌, ◌+◌, ℕ, List, [], ◌∷◌, map, refl, sym, ap, ◌∙◌, arith}
use Rattle.std.specs.Prelude.{Ok, Result}
use Rattle.std.proofs.lemmas.Bool.{and_from, cond-true, cond-false, eq-eqb, le-leb, le-ltb}
use Rattle.xb_model.specs.declared.line.TheConstants.{LINES}
use Rattle.xb_model.specs.declared.limits.Limits.{Limits}
use Rattle.xb_model.specs.declared.plan.Plan.{Plan}
use Rattle.xb_model.specs.Routing.{AreRoutes, CodedRoute}
use Rattle.xb_model.specs.Rows.{LoopRow}
use Rattle.xb_parts.specs.declared.range.LineRange.{LineRange}
use Rattle.xb_parts.specs.Parts.{AreParts, Part}
use Rattle.xb_page.specs.declared.fault.PageFault.{PageFault}
use Rattle.xb_page.specs.PageLines.{Read, read_page}
use Rattle.xb_page.specs.Sheets.{Sheet, followed_by, joined_sheets, no_entries, sheet_text}
use Rattle.xb_page.proofs.LineSheets.{followed_by-assoc, no_entries-first, no_entries-last}
use Rattle.xb_parts.specs.declared.parts_fault.PartsFault.{PartsFault}
use Rattle.xb_parts.specs.Given.{PagesMakeTheWhole, given_from}
use Rattle.xb_parts.specs.Joining.{given_with, join_from, lines_by, or_fault, sheet_given, sheet_within}
use Rattle.xb_parts.specs.PartPages.{part_page, part_sheet}
use Rattle.xb_parts.proofs.JoinedPages.{read_part}
use Rattle.xb_parts.proofs.JoinedParts.{AreParts-le, sheet_of-parts}

abbrev ok_text : Sheet → Result (List ℕ) PartsFault
ok_text sheet = Ok (sheet_text sheet)

abbrev range_of : ℕ → ℕ → LineRange
range_of first end = record { first = first; end = end }

module _ (plan : Plan) (limits : Limits) (routes : List CodedRoute) (as_had : AreRoutes routes) where
  -- a page that has no line from `end` on gives its part's sheet
  taken : (number line end next : ℕ) (part : Part) → line ≤ end → end ≤ LINES → next ≤ end
      → read_page line (part_page plan limits routes part)
      ≡ Ok (record { sheet = part_sheet plan limits routes part; next_line = next })
      → sheet_given number line (range_of line end) (part_page plan limits routes part) ≡ Ok (part_sheet plan limits routes part)
  taken number line end next part up within few is =
      cond-true _ _ _ (and_from _ _ (and_from _ _ (eq-eqb line line refl) (le-leb line end up)) (le-leb end LINES within))
      ∙ ap (sheet_within number end) is
      ∙ cond-false _ _ _ (le-ltb end next few)

  -- the pages of parts, of which the first may begin with this line
  from_pages : (number : ℕ) (rows : List LoopRow) (from line : ℕ) (sheet : Sheet) (part : Part) (parts : List Part)
      → AreParts rows from LINES (part ∷ parts) → line ≤ from
      → join_from number line sheet (given_from line (map (part_page plan limits routes) (part ∷ parts)))
      ≡ Ok (sheet_text (followed_by sheet (joined_sheets (map (part_sheet plan limits routes) (part ∷ parts)))))
  from_pages number rows from line sheet part [] are low =
      let within : part.end ≤ LINES = AreParts-le plan limits routes rows part.end LINES [] are.3 in
      let here : Sheet = part_sheet plan limits routes part in
      let read = read_part plan limits routes as_had rows part line (omega arith) (omega arith) within are.2 in
      ap (λ (r : Result Sheet PartsFault). or_fault r (λ s. join_from (number + 1) LINES (followed_by sheet s) []))
      (taken number line LINES read.0 part (omega arith) (omega arith) (omega (arith, read.2)) read.1)
      ∙ ap (λ (s : Sheet). ok_text (followed_by sheet s)) (sym (no_entries-last here))
  from_pages number rows from line sheet part (next ∷ parts) are low =
      let within : part.end ≤ LINES = AreParts-le plan limits routes rows part.end LINES (next ∷ parts) are.3 in
      let here : Sheet = part_sheet plan limits routes part in
      let page : List ℕ = part_page plan limits routes part in
      let pages : List (List ℕ) = map (part_page plan limits routes) (next ∷ parts) in
      let read = read_part plan limits routes as_had rows part line (omega arith) (omega arith) within are.2 in
      ap (λ (r : Result Read PageFault). join_from number line sheet
      (given_with (lines_by line r) page ∷ given_from (lines_by line r).end pages)) read.1
      ∙ ap (λ (r : Result Sheet PartsFault). or_fault r
      (λ s. join_from (number + 1) read.0 (followed_by sheet s) (given_from read.0 pages)))
      (taken number line read.0 read.0 part read.3 (omega (arith, read.2)) (omega arith) read.1)
      ∙ from_pages (number + 1) rows part.end read.0 (followed_by sheet here) next parts are.3 read.2
      ∙ ap (λ (s : Sheet). ok_text s)
      (followed_by-assoc sheet here (joined_sheets (map (part_sheet plan limits routes) (next ∷ parts))))

pub pages_make_the_whole : PagesMakeTheWhole
pages_make_the_whole plan limits routes rows [] as_had are = absurd (omega arith)
pages_make_the_whole plan limits routes rows (part ∷ parts) as_had are =
    from_pages plan limits routes as_had 1 rows 0 0 no_entries part parts are (omega arith)
    ∙ ap (λ (s : Sheet). ok_text s) (no_entries-first (joined_sheets (map (part_sheet plan limits routes) (part ∷ parts))))
    ∙ ap (λ (s : Sheet). ok_text s) (sym (sheet_of-parts plan limits routes rows (part ∷ parts) are))
