-- A deck that is split, where its bytes are known.
use Rattle.std.specs.Prelude.{ℕ, ◌≡◌, ◌≤◌, ◌<◌, ◌-◌, ◌^◌, List, [], ◌∷◌, length, map, Option, Some, None, IfSome, IsOk}
use Rattle.std.specs.Io.KnownBytes.{Appends, Keeps}
use Rattle.xb_deck.specs.Deck.{deck_parts}
use Rattle.xb_model.specs.Rows.{LoopRow}
use Rattle.xb_model.specs.Sources.{Rest}
use Rattle.xb_routes.specs.Text.{table_of_text}
use Rattle.xb_rows.specs.RowTexts.{rest_within}
use Rattle.xb_rows.specs.Streams.{rest_of_stream}
use Rattle.xb_parts.specs.Counts.{AreLoadsOf, counted}
use Rattle.xb_parts.specs.Lists.{list_of}
use Rattle.xb_parts.specs.Loads.{records_of}
use Rattle.xb_parts.specs.Ranges.{CoverAll}
use Rattle.xb_parts.specs.declared.list.ListedPart.{ListedPart}
use Rattle.xb_parts.specs.declared.load.Load.{Load}
use Rattle.xb_parts.specs.declared.range.LineRange.{LineRange}
use Rattle.xb_parts.specs.PartDecks.{Decks, deck_of_part}
use Rattle.xb_parts.specs.Plans.{AreAsked, FitDecks}
use Rattle.xb_parts.specs.RowStreams.{HasGivenAll}
use Rattle.xb_parts.specs.declared.splitting.TheConstants.{MOST_PARTS}

-- the rows of a text of any length, and the fault that stops them
abbrev pub rest_of_rows : List ℕ → Rest
rest_of_rows text = rest_within (2 ^ 64 - 1) text

-- what a stream of such a text gives: the same, where it has no fault
abbrev pub rest_of_row_stream : List ℕ → Rest
rest_of_row_stream text = rest_of_stream (2 ^ 64 - 1) text

-- a deck that was opened: its table was read, and its rows are left
abbrev pub IsOpened : Option (List ℕ) → List ℕ → Option Rest → Type 0
IsOpened deck table left = IfSome deck (λ text. (rows : List ℕ)
    × (deck_parts text ≡ Some (record { table = table; rows = rows })) × (left ≡ Some (rest_of_row_stream rows)))

-- a deck is this table, the cut, and records of these rows, without a fault
abbrev pub HasRows : List ℕ → List ℕ → List LoopRow → Type 0
HasRows deck table rows = (text : List ℕ) × (deck_parts deck ≡ Some (record { table = table; rows = text }))
    × ((rest_of_rows text).rows ≡ rows) × ((rest_of_rows text).stop ≡ None)

-- an office takes this text as its route table
abbrev pub IsTable : List ℕ → Type 0
IsTable text = IsOk (table_of_text text)

-- the table of a deck, which an office takes, and what each line has of it
abbrev pub IsCounted : Option (List ℕ) → List ℕ → List Load → Type 0
IsCounted deck table loads = IsTable table
    × IfSome deck (λ text. (rows : List LoopRow) × HasRows text table rows × AreLoadsOf rows loads)

-- a part as the list has it: its lines, and how many records they have
abbrev pub listed : List Load → LineRange → ListedPart
listed loads range = record { lines = range; records = counted (records_of loads range.first range.end) }

-- the ranges of the parts of a deck: they take all lines, the deck of each is one that an office takes, they
-- are those that are asked for, there are no more than may be, and the list names them with what was counted
pub record IsPlan (deck : Option (List ℕ)) (wanted : Option ℕ) (table : List ℕ) (loads : List Load)
    (ranges : List LineRange) (list : List ℕ) : Type 0 where
  pub counted : IsCounted deck table loads
  pub cover : CoverAll ranges
  pub fit : FitDecks (length table) loads ranges
  pub asked : AreAsked wanted (length table) loads ranges
  pub few : length ranges ≤ MOST_PARTS
  pub list_is : list ≡ list_of (map (listed loads) ranges)

-- the parts of a deck are planned, and it was opened again
pub record IsReady (deck : Option (List ℕ)) (wanted : Option ℕ) (table : List ℕ) (loads : List Load)
    (ranges : List LineRange) (list : List ℕ) (left : Option Rest) : Type 0 where
  pub plan : IsPlan deck wanted table loads ranges list
  pub opened : IsOpened deck table left

-- decks that have exactly the rows of their parts, of all that were left, which are as many as were counted
abbrev pub AreMade : Option (List ℕ) → Decks → List ℕ → List Load → List LineRange → Option Rest → Type 0
AreMade fresh made table loads ranges left = (rows : List LoopRow) × HasGivenAll rows left × AreLoadsOf rows loads
    × ((i : ℕ) → i < length ranges → Appends fresh (made i) (deck_of_part table ranges rows i))

-- the decks of all parts of a deck, each with its table, which an office takes, and with exactly its rows, which
-- are as many as its list says
pub record IsSplit (deck : Option (List ℕ)) (wanted : Option ℕ) (fresh : Option (List ℕ)) (decks : Decks)
    (list : List ℕ) : Type 0 where
  pub table : List ℕ
  pub ranges : List LineRange
  pub rows : List LoopRow
  pub loads : List Load
  pub plan : IsPlan deck wanted table loads ranges list
  pub recounted : AreLoadsOf rows loads
  pub read : IfSome deck (λ text. HasRows text table rows)
  pub written : (i : ℕ) → i < length ranges → Appends fresh (decks i) (deck_of_part table ranges rows i)

-- these are the decks of all parts of the deck
abbrev pub AreWhole : Option (List ℕ) → Option (List ℕ) → Decks → List ℕ → Type 0
AreWhole deck fresh decks list = (wanted : Option ℕ) × IsSplit deck wanted fresh decks list

-- the list of each folder stays
abbrev pub ListsKept : (List ℕ → Option (List ℕ)) → (List ℕ → Option (List ℕ)) → Type 0
ListsKept old new = (folder : List ℕ) → Keeps (old folder) (new folder)

-- decks that have their names in a folder, and their list, which has its own
pub record IsNamed (folder : List ℕ) (made : Decks) (list : List ℕ) (named : List ℕ → Decks)
    (old new : List ℕ → Option (List ℕ)) : Type 0 where
  pub decks : (i : ℕ) → named folder i ≡ made i
  pub listed : Appends (old folder) (new folder) list

-- the folders whose decks were begun, and neither have their names nor are given up, where that is known
abbrev pub Unfinished : Type 0
Unfinished = Option (List (List ℕ))

-- the decks of a folder are begun
abbrev pub Begins : List ℕ → Unfinished → Unfinished → Type 0
Begins folder old new = IfSome old (λ folders. new ≡ Some (folder ∷ folders))

-- those of a folder, which were begun last, get their names, or are given up
abbrev pub Ends : List ℕ → Unfinished → Unfinished → Type 0
Ends folder None new = Unit {0}
Ends folder (Some []) new = Unit {0}
Ends folder (Some (begun ∷ folders)) new = begun ≡ folder → new ≡ Some folders

-- no more are begun than there were
abbrev pub LeavesNone : Unfinished → Unfinished → Type 0
LeavesNone old new = IfSome old (λ folders. new ≡ Some folders)
