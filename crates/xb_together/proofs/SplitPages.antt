-- The decks of ranges say the pages of parts.
use Rattle.std.proofs.Common.{◌≡◌, ℕ, List, [], ◌∷◌, map, refl, sym, ap, ap₂, ◌∙◌}
use Rattle.std.specs.Prelude.{Ok, Result}
use Rattle.std.specs.List.{AllByRecursion}
use Rattle.std.proofs.lemmas.List.Elements.{All-filter, recursion_from_All}
use Rattle.xb_model.specs.Page.{page_text}
use Rattle.xb_model.specs.Rows.{LoopRow}
use Rattle.xb_model.specs.Tapes.{tapes_of}
use Rattle.xb_routes.specs.Table.{Table}
use Rattle.xb_routes.specs.Text.{table_of_text}
use Rattle.xb_rows.specs.WrittenRows.{AreRows, IsLawfulRow}
use Rattle.xb_deck.specs.MadeDecks.{AreTableLines, with_ends}
use Rattle.xb_office.specs.DeckPage.{page_of, says}
use Rattle.xb_office.specs.MadeDecks.{MadeDecksSayTheirPage}
use Rattle.xb_parts.specs.declared.range.LineRange.{LineRange}
use Rattle.xb_parts.specs.Ranges.{part_with, rows_in}
use Rattle.xb_parts.proofs.RangeParts.{ranges_make_parts}
use Rattle.xb_parts.specs.declared.parts_fault.PartsFault.{PartsFault}
use Rattle.xb_parts.specs.Joining.{Given, given_part, given_with, join_of}
use Rattle.xb_parts.proofs.JoinedPages.{parts_make_the_whole}
use Rattle.xb_routes.proofs.TableRoutes.{table-routes}
use Rattle.xb_together.specs.SplitDecks.{HasItsPage, IsSmall, SplitDecksMakeThePage, range_deck, ranges_of}

-- some of rows are rows
pub AreRows-in : (range : LineRange) (rows : List LoopRow) → AreRows rows → AreRows (rows_in range rows)
AreRows-in range rows are = All-filter _ IsLawfulRow rows are

module _ (made_say : MadeDecksSayTheirPage) (lines : List (List ℕ)) (table : Table) (rows : List LoopRow) (are_lines : AreTableLines lines)
    (is_table : table_of_text (with_ends lines) ≡ Ok table) (are_rows : AreRows rows) where
  -- the part of a range, and its page
  abbrev given_in : LineRange → Given
  given_in range = given_part table.plan table.limits table.routes (part_with rows range)

  page_of-part : (range : LineRange) → page_of table (rows_in range rows) ≡ (given_in range).page
  unfolding page_of
  page_of-part range = refl

  page_of-whole : page_of table rows ≡ page_text (tapes_of table.plan table.limits table.routes rows)
  unfolding page_of
  page_of-whole = refl

  -- the page that a range's deck says is that of its part
  said : (range : LineRange) (page : List ℕ) → IsSmall lines rows range → says (range_deck lines rows range) ≡ Ok page
      → page ≡ (given_in range).page
  said range page small e =
      let whole : says (range_deck lines rows range) ≡ Ok (page_of table (rows_in range rows))
      = made_say lines table (rows_in range rows) are_lines is_table (AreRows-in range rows are_rows) small.0 small.1 in
      let same : page ≡ page_of table (rows_in range rows) = cc in
      same ∙ page_of-part range

  parts_are : (parts : List Given) → AllByRecursion (IsSmall lines rows) (ranges_of parts)
      → AllByRecursion (HasItsPage lines rows) parts
      → parts ≡ map (given_part table.plan table.limits table.routes) (map (part_with rows) (ranges_of parts))
  parts_are [] small says_them = refl
  parts_are (part ∷ parts) small says_them =
      ap₂ (λ (p : Given) (ps : List Given). p ∷ ps)
      (ap (λ (page : List ℕ). given_with part.lines page) (said part.lines part.page small.0 says_them.0))
      (parts_are parts small.1 says_them.1)

abbrev said_page : List ℕ → Result (List ℕ) PartsFault
said_page page = Ok page

pub split_decks_make_the_page : MadeDecksSayTheirPage → SplitDecksMakeThePage
split_decks_make_the_page made_say lines table rows parts are_lines is_table are_rows cover small says_them =
    ap join_of
    (parts_are made_say lines table rows are_lines is_table are_rows parts
    (recursion_from_All (IsSmall lines rows) (ranges_of parts) small) (recursion_from_All (HasItsPage lines rows) parts says_them))
    ∙ parts_make_the_whole table.plan table.limits table.routes rows (map (part_with rows) (ranges_of parts))
    (table-routes (with_ends lines) table is_table)
    (ranges_make_parts rows (ranges_of parts) cover)
    ∙ ap (λ (page : List ℕ). said_page page) (sym (page_of-whole made_say lines table rows are_lines is_table are_rows))
