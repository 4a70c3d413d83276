-- A deck that is read as it comes: its route table, and then its rows.
use Rattle.std.specs.Prelude.{ℕ, ◌≡◌, ◌-◌, ◌^◌, List, Some, None, Ok}
use Rattle.xb_model.specs.Sources.{Rest}
use Rattle.xb_deck.specs.Deck.{Parts, deck_parts}
use Rattle.xb_routes.specs.Table.{Table}
use Rattle.xb_routes.specs.Text.{table_of_text}
use Rattle.xb_rows.specs.RowTexts.{fault_of_text, rest_of_text}
use Rattle.xb_rows.specs.Streams.{rest_of_stream}

-- a deck has this table, and these rows with a stop after them; there may be any number of records
pub record Has (deck : List ℕ) (table : Table) (rest : Rest) : Type 0 where
  pub parts : Parts
  pub cut : deck_parts deck ≡ Some parts
  pub reads : table_of_text parts.table ≡ Ok table
  pub is : rest ≡ rest_of_stream (2 ^ 64 - 1) parts.rows

-- the rows of a text that has no fault and no more than the 1,000,000 records of `mfbank` are all its rows in
-- a stream, however many there may be
abbrev pub AcceptedRowsAreAll : Type 0
AcceptedRowsAreAll =
    (text : List ℕ) → fault_of_text text ≡ None → rest_of_stream (2 ^ 64 - 1) text ≡ rest_of_text text
