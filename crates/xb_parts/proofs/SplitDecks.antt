-- What is known of a deck that was read twice.
use Rattle.std.proofs.Common.{◌≡◌, ◌∙◌, ◌<◌, ◌-◌, ◌^◌, ◌++◌, ℕ, List, Option, Some, None, IfSome, length, sym, ap, subst, inl}
use Rattle.std.specs.Prelude.{option_map}
use Rattle.std.specs.Io.KnownBytes.{Appends, Keeps}
use Rattle.xb_deck.specs.Deck.{Parts}
use Rattle.xb_deck.specs.Tables.{IsCutAfter, IsTableFault}
use Rattle.xb_deck.specs.declared.deck.TheConstants.{MOST_DECK_BYTES}
use Rattle.xb_deck.specs.declared.table.TableFault.{TableFault}
use Rattle.xb_deck.specs.declared.table.TableFault.TheVariants as table
use Rattle.xb_model.specs.Rows.{LoopRow}
use Rattle.xb_model.specs.Sources.{Rest}
use Rattle.xb_model.specs.declared.fault.RowFault.{RowFault}
use Rattle.xb_rows.specs.Streams.{rest_of_stream}
use Rattle.xb_rows.proofs.StreamRows.{streams_are_texts}
use Rattle.xb_parts.specs.declared.load.Load.{Load}
use Rattle.xb_parts.specs.declared.range.LineRange.{LineRange}
use Rattle.xb_parts.specs.PartDecks.{Decks, GetsDecks, deck_of_part}
use Rattle.xb_parts.specs.RowStreams.{CountsAll, HasGivenAll, StopsRows}
use Rattle.xb_parts.specs.SplitFaults.{HasParts, IsFaultOf}
use Rattle.xb_parts.specs.Splits.{AreMade, HasRows, IsCounted, IsOpened, IsReady, IsSplit, IsTable, rest_of_row_stream}
use Rattle.xb_parts.specs.declared.split_fault.SplitFault.TheVariants as fault

-- a deck whose table was read
pub opened : (deck : Option (List ℕ)) (table : List ℕ) (old new : Option (List ℕ)) (left : Option Rest)
    → IfSome deck (λ known. old ≡ Some known) → IsCutAfter table old new
    → left ≡ option_map (rest_of_stream (2 ^ 64 - 1)) new → IsOpened deck table left
opened None table old new left known cut is = tt
opened (Some text) table old None left known cut is = absurd (subst (λ o. IsCutAfter table o None) known cut)
opened (Some text) table old (Some rows) left known cut is =
    (rows, subst (λ o. IsCutAfter table o (Some rows)) known cut, is)

-- the rows that were given are those of the deck
pub has_rows : (deck : Option (List ℕ)) (table : List ℕ) (left : Option Rest) (rows : List LoopRow)
    → IsOpened deck table left → HasGivenAll rows left → IfSome deck (λ text. HasRows text table rows)
has_rows None table left rows opened given = tt
has_rows (Some text) table left rows opened given =
    let all = subst (HasGivenAll rows) opened.2 given in
    let same = streams_are_texts.rows_same (2 ^ 64 - 1) opened.0 (inl all.1) in (
      opened.0,
      opened.1,
      sym (ap (λ (rest : Rest). rest.rows) same) ∙ all.0,
      sym (ap (λ (rest : Rest). rest.stop) same) ∙ all.1,
    )

pub counted : (deck : Option (List ℕ)) (table : List ℕ) (left : Option Rest) (loads : List Load)
    → IsOpened deck table left → IsTable table → CountsAll left loads → IsCounted deck table loads
counted None table left loads opened taken counts = (taken, tt)
counted (Some text) table left loads opened taken counts =
    (taken, (counts.0, has_rows (Some text) table left counts.0 opened counts.1, counts.2))

-- what holds of a table that was read is known of the deck
pub has_table : (deck : Option (List ℕ)) (table : List ℕ) (left : Option Rest) (P : List ℕ → Type 0)
    → IsOpened deck table left → P table → HasParts deck (λ cut. P cut.table)
has_table None table left P opened here = tt
has_table (Some text) table left P opened here = subst (λ o. IfSome o (λ (cut : Parts). P cut.table)) (sym opened.1) here

-- the fault that stopped the rows is one of the deck
pub rows_fault : (deck : Option (List ℕ)) (table : List ℕ) (left : Option Rest) (parts : Option ℕ) (f : RowFault)
    → IsOpened deck table left → IsTable table → IfSome left (λ rest. StopsRows rest f)
    → IsFaultOf deck parts (fault.Rows f)
rows_fault None table left parts f opened taken stops = (tt, tt)
rows_fault (Some text) table left parts f opened taken stops =
    let stop = subst (λ o. IfSome o (λ rest. StopsRows rest f)) opened.2 stops in (
      has_table (Some text) table left IsTable opened taken,
      subst (λ o. IfSome o (λ cut. StopsRows (rest_of_row_stream cut.rows) f)) (sym opened.1) stop,
    )

-- decks that got all rows after they were made
pub are_made : (fresh : Option (List ℕ)) (start made : Decks) (table : List ℕ) (loads : List Load)
    (ranges : List LineRange) (left : Option Rest) → ((i : ℕ) → i < length ranges → start i ≡ fresh)
    → GetsDecks table left ranges loads start made → AreMade fresh made table loads ranges left
are_made fresh start made table loads ranges left empty gets = (
  gets.0,
  gets.1,
  gets.2,
  λ i below. subst (λ o. Appends o (made i) (deck_of_part table ranges gets.0 i)) (empty i below) (gets.3 i below),
)

-- they are those of all parts of the deck
pub is_split : (deck : Option (List ℕ)) (wanted : Option ℕ) (fresh : Option (List ℕ)) (made named : Decks)
    (table : List ℕ) (loads : List Load) (ranges : List LineRange) (list : List ℕ) (left : Option Rest)
    → IsReady deck wanted table loads ranges list left → AreMade fresh made table loads ranges left
    → ((i : ℕ) → named i ≡ made i) → IsSplit deck wanted fresh named list
is_split deck wanted fresh made named table loads ranges list left ready are same = record {
  table = table;
  ranges = ranges;
  rows = are.0;
  loads = loads;
  plan = ready.plan;
  recounted = are.2;
  read = has_rows deck table left are.0 ready.opened are.1;
  written = λ i below. subst (λ o. Appends fresh o (deck_of_part table ranges are.0 i)) (sym (same i)) (are.3 i below);
}

-- what a fault says of the bytes that are left holds of the deck
pub table_fault : (deck old : Option (List ℕ)) (f : TableFault) → IfSome deck (λ known. old ≡ Some known)
    → IsTableFault MOST_DECK_BYTES old f → IsTableFault MOST_DECK_BYTES deck f
table_fault None old table.NoCut known is = tt
table_fault None old (table.TooLong limit) known is = (is.0, tt)
table_fault None old table.Read known is = tt
table_fault None old table.NoMemory known is = tt
table_fault (Some text) old f known is = subst (λ o. IsTableFault MOST_DECK_BYTES o f) known is

-- a list that was kept, and then got its name
pub kept_then : (old mid new : Option (List ℕ)) (list : List ℕ) → Keeps old mid → Appends mid new list
    → Appends old new list
kept_then None mid new list kept more = tt
kept_then (Some xs) None new list kept more = absurd kept
kept_then (Some xs) (Some ys) None list kept more = absurd more
kept_then (Some xs) (Some ys) (Some zs) list kept more = more ∙ ap (λ (bs : List ℕ). bs ++ list) kept
