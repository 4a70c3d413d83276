-- The pages of parts are read, and make the page of the whole.
use Rattle.std.proofs.Common.{◌≡◌, ◌≤◌, ◌+◌, ◌-◌, ℕ, List, [], ◌∷◌, map, refl, sym, ap, ◌∙◌, arith, subst}
use Rattle.std.specs.Prelude.{Ok, Result}
use Rattle.std.proofs.lemmas.Bool.{and_from, cond-true, cond-false, eq-eqb, le-leb, le-ltb}
use Rattle.xb_model.specs.declared.line.TheConstants.{LINES}
use Rattle.xb_model.specs.declared.limits.Limits.{Limits}
use Rattle.xb_model.specs.declared.plan.Plan.{Plan}
use Rattle.xb_model.specs.Page.{page_text}
use Rattle.xb_model.specs.Routing.{AreRoutes, CodedRoute}
use Rattle.xb_model.specs.Rows.{LoopRow}
use Rattle.xb_model.specs.Tapes.{tapes_of}
use Rattle.xb_parts.specs.Parts.{AreParts, IsPartOf, Part}
use Rattle.xb_page.specs.PageLines.{read_page, start_at}
use Rattle.xb_page.specs.Places.{line_after}
use Rattle.xb_page.specs.Sheets.{Sheet, followed_by, joined_sheets, no_entries, sheet_text}
use Rattle.xb_page.proofs.LineSheets.{followed_by-assoc, no_entries-first, no_entries-last}
use Rattle.xb_page.proofs.ReadEntries.{Reads, Reads-lines, Ready-start, line_after-ready, line_after-up}
use Rattle.xb_page.proofs.ReadSheets.{read_sheet}
use Rattle.xb_parts.specs.declared.parts_fault.PartsFault.{PartsFault}
use Rattle.xb_parts.specs.declared.parts_fault.PartsFault.TheVariants as fault
use Rattle.xb_parts.specs.Joining.{BlamesNoPart, Given, IsFaultOf, MakesTheWhole, PartsMakeTheWhole, given_part, join_from, join_of, or_fault, sheet_given, sheet_within}
use Rattle.xb_parts.specs.PartPages.{part_page, part_sheet}
use Rattle.xb_parts.proofs.TapeMarks.{joined_tape-marks}
use Rattle.xb_parts.proofs.JoinedParts.{AreParts-le, part_sheet-lines, sheet_of-parts, tape_in}

abbrev ok_text : Sheet → Result (List ℕ) PartsFault
ok_text sheet = Ok (sheet_text sheet)

module _ (plan : Plan) (limits : Limits) (routes : List CodedRoute) (as_had : AreRoutes routes) where
  -- the page of a part is read, from its first line or an earlier one on
  pub read_part : (rows : List LoopRow) (part : Part) (line : ℕ) → line ≤ part.first → part.first ≤ part.end → part.end ≤ LINES
      → IsPartOf rows part
      → (next : ℕ) × (read_page line (part_page plan limits routes part)
      ≡ Ok (record { sheet = part_sheet plan limits routes part; next_line = next })) × (next ≤ part.end) × (line ≤ next)
  read_part rows part line low up within is =
      let n : ℕ = part.end - part.first in
      let e : part.first + n ≡ part.end = omega arith in
      let lines = part_sheet-lines plan limits routes rows part n e within is in
      let ready = Ready-start line part.first low in
      let read = Reads-lines (tape_in plan limits routes rows) (start_at line) part.first n (omega arith) ready
      (λ l. joined_tape-marks plan limits routes l rows as_had) in
      let reads = subst (λ sheet. Reads (start_at line) sheet read.place') (sym lines) read.reads in (
        line_after read.place',
        read_sheet line (part_sheet plan limits routes part) read.place' reads,
        subst (λ end. line_after read.place' ≤ end) e (line_after-ready read.place' (part.first + n) read.ready),
        line_after-up read.place' line read.up,
      )

  -- and gives the part's sheet
  given-part : (number line : ℕ) (rows : List LoopRow) (part : Part) → part.first ≡ line → line ≤ part.end
      → part.end ≤ LINES → IsPartOf rows part
      → sheet_given number line (given_part plan limits routes part).lines (part_page plan limits routes part)
      ≡ Ok (part_sheet plan limits routes part)
  given-part number line rows part first up within is =
      let page : List ℕ = part_page plan limits routes part in
      let read = read_part rows part part.first (omega arith) (omega arith) within is in
      cond-true _ _ _
      (and_from _ _ (and_from _ _ (eq-eqb part.first line first) (le-leb line part.end up)) (le-leb part.end LINES within))
      ∙ ap (λ (l : ℕ). sheet_within number part.end (read_page l page)) (sym first)
      ∙ ap (sheet_within number part.end) read.1
      ∙ cond-false _ _ _ (le-ltb part.end read.0 read.2)

  -- the pages of parts are joined
  join_from-parts : (number : ℕ) (rows : List LoopRow) (from : ℕ) (sheet : Sheet) (parts : List Part)
      → AreParts rows from LINES parts
      → join_from number from sheet (map (given_part plan limits routes) parts)
      ≡ Ok (sheet_text (followed_by sheet (joined_sheets (map (part_sheet plan limits routes) parts))))
  join_from-parts number rows from sheet [] are =
      cond-true _ _ _ (eq-eqb from LINES are) ∙ ap (λ (s : Sheet). ok_text s) (sym (no_entries-last sheet))
  join_from-parts number rows from sheet (part ∷ parts) are =
      let within : part.end ≤ LINES = AreParts-le plan limits routes rows part.end LINES parts are.3 in
      let here : Sheet = part_sheet plan limits routes part in
      let later = map (given_part plan limits routes) parts in
      ap (λ (r : Result Sheet PartsFault). or_fault r (λ s. join_from (number + 1) part.end (followed_by sheet s) later))
      (given-part number from rows part are.0 are.1 within are.2)
      ∙ join_from-parts (number + 1) rows part.end (followed_by sheet here) parts are.3
      ∙ ap (λ (s : Sheet). ok_text s) (followed_by-assoc sheet here (joined_sheets (map (part_sheet plan limits routes) parts)))

-- the pages of all parts make the page of all rows
pub parts_make_the_whole : PartsMakeTheWhole
parts_make_the_whole plan limits routes rows parts as_had are =
    join_from-parts plan limits routes as_had 1 rows 0 no_entries parts are
    ∙ ap (λ (s : Sheet). ok_text s) (no_entries-first (joined_sheets (map (part_sheet plan limits routes) parts)))
    ∙ ap (λ (s : Sheet). ok_text s) (sym (sheet_of-parts plan limits routes rows parts are))

-- what pages say is the page of the rows of whose parts they are
pub makes_the_whole : (given : List Given) (page : List ℕ) → join_of given ≡ Ok page → MakesTheWhole given page
makes_the_whole given page e = λ plan limits routes rows parts as_had are same.
    let whole : join_of given ≡ Ok (page_text (tapes_of plan limits routes rows))
    = ap join_of same ∙ parts_make_the_whole plan limits routes rows parts as_had are in
    cc

-- and no fault of theirs
pub blames_no_part : (given : List Given) (f : PartsFault) → IsFaultOf (join_of given) f → BlamesNoPart given f
blames_no_part given f is = λ plan limits routes rows parts as_had are same.
    let whole : join_of given ≡ Ok (page_text (tapes_of plan limits routes rows))
    = ap join_of same ∙ parts_make_the_whole plan limits routes rows parts as_had are in
    at f is whole
  where
    at : (f : PartsFault) → IsFaultOf (join_of given) f → {page : List ℕ} → join_of given ≡ Ok page → f ≡ fault.NoMemory
    at fault.NoMemory is whole = refl
    at (fault.Lines number) is whole = cc
    at (fault.Part number d) is whole = cc
    at (fault.PastEnd number) is whole = cc
    at (fault.Missing line) is whole = cc
