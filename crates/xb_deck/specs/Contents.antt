-- What a deck has in it: a route table and loop rows, or its first fault.
use Rattle.std.specs.Prelude.{ℕ, ◌≡◌, List, length, nat_lt, if◌then◌else◌, Option, Some, None, Result, Ok, Err}
use Rattle.xb_model.specs.declared.fault.RowFault.{RowFault}
use Rattle.xb_model.specs.Rows.{LoopRow}
use Rattle.xb_routes.specs.declared.fault.RouteFault.{RouteFault}
use Rattle.xb_routes.specs.Table.{Table}
use Rattle.xb_routes.specs.Text.{table_of_text}
use Rattle.xb_rows.specs.RowTexts.{fault_of_text, rows_of_text}
use Rattle.xb_text.specs.Reading.{IsLongerThan}
use Rattle.xb_deck.specs.declared.deck.TheConstants.{MOST_DECK_BYTES}
use Rattle.xb_deck.specs.declared.fault.DeckFault.{DeckFault}
use Rattle.xb_deck.specs.declared.fault.DeckFault.TheVariants as fault
use Rattle.xb_deck.specs.Deck.{Parts, deck_parts}

-- a route table, and loop rows
pub record Contents : Type 0 where
  pub table : Table
  pub rows : List LoopRow

abbrev pub contents : Table → List LoopRow → Contents
contents table rows = record { table = table; rows = rows }

-- a table, and rows with the stop after them: both, or the fault that stops the rows
abbrev pub with_rows : Table → List LoopRow → Option RowFault → Result Contents DeckFault
with_rows table rows None = Ok (contents table rows)
with_rows table rows (Some f) = Err (fault.Rows f)

-- a table or why there is none, and the text of the rows
abbrev pub with_table : List ℕ → Result Table RouteFault → Result Contents DeckFault
with_table text (Err f) = Err (fault.Routes f)
with_table text (Ok table) = with_rows table (rows_of_text text) (fault_of_text text)

-- the two parts of a deck, if it is cut
abbrev pub contents_of_parts : Option Parts → Result Contents DeckFault
contents_of_parts None = Err fault.NoCut
contents_of_parts (Some parts) = with_table parts.rows (table_of_text parts.table)

-- what a deck has in it, or its first fault
abbrev pub contents_of : List ℕ → Result Contents DeckFault
contents_of deck = if nat_lt MOST_DECK_BYTES (length deck) then Err fault.TooLong
    else contents_of_parts (deck_parts deck)

-- memory ran out, or it is the fault that is said of a deck
abbrev pub IsDeckFault : Result Contents DeckFault → DeckFault → Type 0
IsDeckFault said fault.NoMemory = Unit {0}
IsDeckFault said f = said ≡ Err f

-- memory ran out, or it is the fault that stops the rows of a text
abbrev pub IsRowsFault : List ℕ → DeckFault → Type 0
IsRowsFault text fault.NoMemory = Unit {0}
IsRowsFault text (fault.Rows f) = fault_of_text text ≡ Some f
IsRowsFault text f = ⊥

-- why a deck was not read to its end
abbrev pub IsReadFault : Option (List ℕ) → DeckFault → Type 0
IsReadFault old fault.Read = Unit {0}
IsReadFault old fault.NoMemory = Unit {0}
IsReadFault old fault.TooLong = IsLongerThan MOST_DECK_BYTES old
IsReadFault old f = ⊥
