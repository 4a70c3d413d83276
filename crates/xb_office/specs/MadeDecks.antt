-- The page of decks as they are made.
use Rattle.std.specs.Prelude.{ℕ, ◌≡◌, ◌≤◌, List, length, Ok}
use Rattle.xb_model.specs.Rows.{LoopRow}
use Rattle.xb_routes.specs.Table.{Table}
use Rattle.xb_routes.specs.Text.{table_of_text}
use Rattle.xb_rows.specs.declared.scan.TheConstants.{MOST_RECORDS}
use Rattle.xb_rows.specs.WrittenRows.{AreRows, text_of_rows}
use Rattle.xb_deck.specs.declared.deck.TheConstants.{MOST_DECK_BYTES}
use Rattle.xb_deck.specs.MadeDecks.{AreTableLines, made_deck, with_ends}
use Rattle.xb_office.specs.DeckPage.{page_of, says}

-- the deck of a table's lines and of rows
abbrev pub deck_of : List (List ℕ) → List LoopRow → List ℕ
deck_of lines rows = made_deck lines (text_of_rows rows)

-- a deck that is made of a table and of rows, and is not too long, says the page of both
abbrev pub MadeDecksSayTheirPage : Type 0
MadeDecksSayTheirPage = (lines : List (List ℕ)) (table : Table) (rows : List LoopRow)
    → AreTableLines lines → table_of_text (with_ends lines) ≡ Ok table
    → AreRows rows → length rows ≤ MOST_RECORDS
    → length (deck_of lines rows) ≤ MOST_DECK_BYTES
    → says (deck_of lines rows) ≡ Ok (page_of table rows)
