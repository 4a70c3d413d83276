-- What is written of a deck that is read as it comes.
use Rattle.std.specs.Prelude.{ℕ, ◌≡◌, ◌≤◌, ◌^◌, ◌⊎◌, List, length, Option, Some, None, IfSome, Result, Ok, Err}
use Rattle.std.specs.Io.KnownBytes.{Appends, Keeps}
use Rattle.xb_model.specs.declared.fault.RowFault.{RowFault}
use Rattle.xb_model.specs.Rows.{LoopRow}
use Rattle.xb_model.specs.Sources.{Rest}
use Rattle.xb_deck.specs.declared.deck.TheConstants.{MOST_DECK_BYTES}
use Rattle.xb_deck.specs.declared.table.TableFault.TheVariants as table_fault
use Rattle.xb_deck.specs.Deck.{Parts, deck_parts}
use Rattle.xb_deck.specs.Tables.{IsTableFault}
use Rattle.xb_routes.specs.Table.{Table}
use Rattle.xb_routes.specs.Text.{table_of_text}
use Rattle.xb_text.specs.Writing.{AppendsBeginning}
use Rattle.xb_live.specs.Clocks.{Style}
use Rattle.xb_live.specs.Texts.{entries_text, whole_text, with_closes}
use Rattle.xb_live.specs.Writing.{GotAll, GotBeginning, GotFirst, GotUntilLate, GotUntilLateEvent}
use Rattle.xb_live.specs.declared.fault.EntriesFault.TheVariants as entries_fault
use Rattle.xb_live.specs.declared.fault.LiveFault.{LiveFault}
use Rattle.xb_live.specs.declared.fault.LiveFault.TheVariants as fault
use Rattle.xb_live.specs.Decks.{Has}

-- the rows that are taken of those that stop so: where they end, each line is closed
abbrev pub rows_taken : List LoopRow → Option RowFault → List LoopRow
rows_taken rows None = with_closes rows
rows_taken rows (Some f) = rows

-- what was written of rows and the stop after them: all that is to be printed where they end, which sorted is
-- their page; where a fault stops them, exactly the entries that they complete; where a write failed, the
-- beginning of what is to be printed; where a time is past the last instant, the entries of the rows before;
-- else the entries of the first of them
abbrev pub Prints :
    Style → Table → Rest → Result (Unit {0}) LiveFault → Option (List ℕ) → Option (List ℕ) → Type 0
Prints style table rest (Ok u) old new = (rest.stop ≡ None) × GotAll style table rest.rows old new
Prints style table rest (Err (fault.Rows f)) old new =
    (rest.stop ≡ Some f) × Appends old new (entries_text style table rest.rows)
Prints style table rest (Err (fault.Entries entries_fault.Write)) old new =
    ((rest.stop ≡ None) × AppendsBeginning old new (whole_text style table rest.rows))
    ⊎ GotBeginning style table (rows_taken rest.rows rest.stop) old new
Prints style table rest (Err (fault.Entries entries_fault.NoMemory)) old new =
    GotFirst style table (rows_taken rest.rows rest.stop) old new
Prints style table rest (Err (fault.Entries (entries_fault.Late line number))) old new =
    GotUntilLate style line number table (rows_taken rest.rows rest.stop) old new
Prints style table rest (Err (fault.Entries (entries_fault.LateEvent line))) old new =
    GotUntilLateEvent style line table (rows_taken rest.rows rest.stop) old new
Prints style table rest (Err (fault.Deck table_fault.Read)) old new = GotFirst style table rest.rows old new
Prints style table rest (Err (fault.Deck table_fault.NoMemory)) old new = GotFirst style table rest.rows old new
Prints style table rest (Err fault.TooMany) old new =
    (2 ^ 63 ≤ length rest.rows) × GotFirst style table rest.rows old new
Prints style table rest (Err f) old new = ⊥

-- what a run of rows may return: not what a deck without a table does
abbrev pub EndsRows : Result (Unit {0}) LiveFault → Type 0
EndsRows (Err (fault.Deck table_fault.NoCut)) = ⊥
EndsRows (Err (fault.Deck (table_fault.TooLong most))) = ⊥
EndsRows (Err (fault.Routes f)) = ⊥
EndsRows (Err (fault.Cadence f)) = ⊥
EndsRows result = Unit {0}

-- what was written of rows that may be known
abbrev pub PrintsRows :
    Style → Table → Option Rest → Result (Unit {0}) LiveFault → Option (List ℕ) → Option (List ℕ) → Type 0
PrintsRows style table None result old new = EndsRows result
PrintsRows style table (Some rest) result old new = Prints style table rest result old new

-- what was written of a deck: what its table and its rows say
abbrev pub PrintsDeck :
    Style → List ℕ → Result (Unit {0}) LiveFault → Option (List ℕ) → Option (List ℕ) → Type 0
PrintsDeck style deck result old new =
    (table : Table) × ((rest : Rest) × Has deck table rest × Prints style table rest result old new)

-- what is returned for a deck, and what the writer got of it
abbrev pub Runs :
    Style → Option (List ℕ) → Result (Unit {0}) LiveFault → Option (List ℕ) → Option (List ℕ) → Type 0
Runs style input (Err (fault.Deck table_fault.NoCut)) old new =
    Keeps old new × IsTableFault MOST_DECK_BYTES input table_fault.NoCut
Runs style input (Err (fault.Deck (table_fault.TooLong most))) old new =
    Keeps old new × IsTableFault MOST_DECK_BYTES input (table_fault.TooLong most)
Runs style input (Err (fault.Deck f)) old new =
    Keeps old new ⊎ IfSome input (λ deck. PrintsDeck style deck (Err (fault.Deck f)) old new)
Runs style input (Err (fault.Routes f)) old new = Keeps old new × IfSome input (λ deck.
    (parts : Parts) × (deck_parts deck ≡ Some parts) × (table_of_text parts.table ≡ Err f))
Runs style input result old new = IfSome input (λ deck. PrintsDeck style deck result old new)
