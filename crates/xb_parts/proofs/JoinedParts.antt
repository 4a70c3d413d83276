-- The page of the whole is the join of the pages of its parts.
use Rattle.std.proofs.Common.{◌≡◌, ◌≤◌, ◌<◌, ◌+◌, ◌-◌, ℕ, List, [], ◌∷◌, map, refl, sym, ap, ap₂, ◌∙◌, arith}
use Rattle.std.specs.Prelude.{sum_by}
use Rattle.std.specs.List.{flat_map}
use Rattle.std.proofs.lemmas.List.Sums.{sum_by-cons}
use Rattle.xb_model.specs.declared.line.TheConstants.{LINES}
use Rattle.xb_model.specs.declared.limits.Limits.{Limits}
use Rattle.xb_model.specs.declared.mark.Mark.{Mark}
use Rattle.xb_model.specs.declared.plan.Plan.{Plan}
use Rattle.xb_model.specs.Keyings.{marks_of}
use Rattle.xb_model.specs.Lines.{lines_below}
use Rattle.xb_model.specs.Numbers.{outcomes_of}
use Rattle.xb_model.specs.Records.{record_up_to_close, rows_of}
use Rattle.xb_model.specs.Routing.{CodedRoute, order_of}
use Rattle.xb_model.specs.Rows.{LoopRow}
use Rattle.xb_model.specs.Tapes.{joined_tape, tapes_of}
use Rattle.xb_parts.specs.Parts.{AreAllParts, AreParts, IsPartOf, Part}
use Rattle.xb_parts.specs.PartPages.{PagesJoin, part_sheet}
use Rattle.xb_page.specs.Sheets.{Sheet, followed_by, joined_sheets, sheet_of, sheet_text, sheet_with}
use Rattle.xb_page.proofs.LineSheets.{no_entries-first, no_entries-last, sheet_at-lines, sheet_from, sheet_from-blank, sheet_from-same, sheet_from-split, sheet_with-same}

module _ (plan : Plan) (limits : Limits) (routes : List CodedRoute) where
  -- the tape of a line, by its own rows
  tape_by : List LoopRow → List Mark
  tape_by own =
      flat_map (λ entry. entry)
      (map (λ outcome. marks_of (order_of routes outcome)) (outcomes_of plan limits (record_up_to_close own)))

  -- the tape of each line
  abbrev pub tape_in : List LoopRow → ℕ → List Mark
  tape_in rows l = joined_tape plan limits routes l rows

  tape_in-own : (rows : List LoopRow) (l : ℕ) → tape_in rows l ≡ tape_by (rows_of l rows)
  unfolding tape_by
  tape_in-own rows l = refl

  tape_by-none : tape_by [] ≡ []
  unfolding tape_by
  tape_by-none = refl

  -- a line has the same tape in rows that have the same rows of it
  tape_in-same : (rows rows' : List LoopRow) (l : ℕ) → rows_of l rows ≡ rows_of l rows' → tape_in rows l ≡ tape_in rows' l
  tape_in-same rows rows' l e = tape_in-own rows l ∙ ap tape_by e ∙ sym (tape_in-own rows' l)

  -- a line without rows has no marks
  tape_in-none : (rows : List LoopRow) (l : ℕ) → rows_of l rows ≡ [] → tape_in rows l ≡ []
  tape_in-none rows l e = tape_in-own rows l ∙ ap tape_by e ∙ tape_by-none

  -- the sheet of rows is that of their lines
  pub sheet_of-lines : (rows : List LoopRow) → sheet_of (tapes_of plan limits routes rows) ≡ sheet_from (tape_in rows) 0 LINES
  unfolding lines_below
  sheet_of-lines rows = sheet_at-lines (tape_in rows) 0 LINES

  -- the sheet of lines of which only those of a range have rows
  narrowed : (tape : ℕ → List Mark) (first n all : ℕ) → first + n ≤ all
      → ((l : ℕ) → l < first → tape l ≡ []) → ((l : ℕ) → first + n ≤ l → tape l ≡ [])
      → sheet_from tape 0 all ≡ sheet_from tape first n
  narrowed tape first n all within before after =
      let rest : ℕ = all - first in
      let more : ℕ = all - (first + n) in
      sheet_from-split tape 0 first rest all first (omega arith) (omega arith)
      ∙ ap₂ followed_by (sheet_from-blank tape 0 first (λ l low high. before l (omega arith))) refl
      ∙ no_entries-first (sheet_from tape first rest)
      ∙ sheet_from-split tape first n more rest (first + n) (omega arith) refl
      ∙ ap₂ followed_by refl (sheet_from-blank tape (first + n) more (λ l low high. after l low))
      ∙ no_entries-last (sheet_from tape first n)

  -- the sheet of a part is that of the part's lines in the whole
  pub part_sheet-lines : (rows : List LoopRow) (part : Part) (n : ℕ) → part.first + n ≡ part.end → part.end ≤ LINES
      → IsPartOf rows part → part_sheet plan limits routes part ≡ sheet_from (tape_in rows) part.first n
  part_sheet-lines rows part n e within is =
      sheet_of-lines part.rows
      ∙ narrowed (tape_in part.rows) part.first n LINES (omega arith)
      (λ l h. tape_in-none part.rows l (is.before l h))
      (λ l h. tape_in-none part.rows l (is.after l (omega arith)))
      ∙ sheet_from-same (tape_in part.rows) (tape_in rows) part.first n
      (λ l low high. tape_in-same part.rows rows l (is.own l low (omega arith)))

  pub AreParts-le : (rows : List LoopRow) (from to : ℕ) (parts : List Part) → AreParts rows from to parts → from ≤ to
  AreParts-le rows from to [] are = omega arith
  AreParts-le rows from to (part ∷ parts) are = omega (arith, are.1, AreParts-le rows part.end to parts are.3)

  -- the sheets of parts, one after the other, are the sheet of all their lines
  pub joined_sheets-parts : (rows : List LoopRow) (from to n : ℕ) (parts : List Part)
      → AreParts rows from to parts → to ≤ LINES → from + n ≡ to
      → sheet_from (tape_in rows) from n ≡ joined_sheets (map (part_sheet plan limits routes) parts)
  unfolding sheet_from
  joined_sheets-parts rows from to n [] are within e =
      let none : n ≡ 0 = omega arith in ap (sheet_from (tape_in rows) from) none
  joined_sheets-parts rows from to n (part ∷ parts) are within e =
      let up : part.end ≤ to = AreParts-le rows part.end to parts are.3 in
      let first : part.first ≡ from = are.0 in
      let low : from ≤ part.end = are.1 in
      let here : ℕ = part.end - from in
      let rest : ℕ = to - part.end in
      sheet_from-split (tape_in rows) from here rest n part.end (omega arith) (omega arith)
      ∙ ap₂ followed_by
      (ap (λ (a : ℕ). sheet_from (tape_in rows) a here) (sym first)
      ∙ sym (part_sheet-lines rows part here (omega arith) (omega arith) are.2))
      (joined_sheets-parts rows part.end to rest parts are.3 within (omega arith))

  -- the sheet of all rows is that of its parts
  pub sheet_of-parts : (rows : List LoopRow) (parts : List Part) → AreAllParts rows parts
      → sheet_of (tapes_of plan limits routes rows) ≡ joined_sheets (map (part_sheet plan limits routes) parts)
  sheet_of-parts rows parts are =
      sheet_of-lines rows ∙ joined_sheets-parts rows 0 LINES LINES parts are (omega arith) (omega arith)

-- sheets that are joined have the entries one after the other, and the sums
joined_sheets-is : (sheets : List Sheet)
    → joined_sheets sheets
    ≡ sheet_with (flat_map (λ s. s.entries) sheets) (sum_by (λ s. s.keyed) sheets) (sum_by (λ s. s.refused) sheets)
joined_sheets-is [] = refl
joined_sheets-is (sheet ∷ sheets) =
    ap (followed_by sheet) (joined_sheets-is sheets)
    ∙ sheet_with-same _ _ _ _ _ _ refl
    (sym (sum_by-cons (λ s. s.keyed) sheet sheets)) (sym (sum_by-cons (λ s. s.refused) sheet sheets))

pub pages_join : PagesJoin
pages_join plan limits routes rows parts are =
    ap sheet_text (sheet_of-parts plan limits routes rows parts are ∙ joined_sheets-is (map (part_sheet plan limits routes) parts))
