-- Why a deck is not split, where its bytes are known.
use Rattle.std.specs.Prelude.{ℕ, ◌≡◌, ◌≤◌, ◌<◌, ◌⊎◌, Bool, true, false, List, length, Option, Some, None, IfSome, Result, Ok, Err}
use Rattle.std.specs.Io.KnownBytes.{Appends, Keeps}
use Rattle.xb_deck.specs.Deck.{Parts, deck_parts}
use Rattle.xb_deck.specs.Tables.{IsTableFault}
use Rattle.xb_deck.specs.declared.deck.TheConstants.{MOST_DECK_BYTES}
use Rattle.xb_routes.specs.Text.{table_of_text}
use Rattle.xb_parts.specs.declared.load.Load.{Load}
use Rattle.xb_parts.specs.declared.range.LineRange.{LineRange}
use Rattle.xb_parts.specs.Ranges.{CoverAll}
use Rattle.xb_parts.specs.PartDecks.{Decks}
use Rattle.xb_parts.specs.Plans.{AreAsked, FitDecks, IsPlanPartsFault}
use Rattle.xb_parts.specs.RowStreams.{StopsRows}
use Rattle.xb_parts.specs.Splits.{IsCounted, IsSplit, IsTable, rest_of_row_stream}
use Rattle.xb_parts.specs.declared.splitting.TheConstants.{MOST_PARTS}
use Rattle.xb_parts.specs.declared.split_fault.SplitFault.{SplitFault}
use Rattle.xb_parts.specs.declared.split_fault.SplitFault.TheVariants as fault

-- the ranges that are asked for of a deck
abbrev pub IsPlanned : Option (List ℕ) → Option ℕ → List LineRange → Type 0
IsPlanned deck parts ranges = (table : List ℕ) × (loads : List Load) × IsCounted deck table loads
    × CoverAll ranges × FitDecks (length table) loads ranges × AreAsked parts (length table) loads ranges

-- this holds of the two parts of a deck, where its bytes are known
abbrev pub HasParts : Option (List ℕ) → (Parts → Type 0) → Type 0
HasParts deck P = IfSome deck (λ text. IfSome (deck_parts text) P)

-- an office takes the table of a deck
abbrev pub HasTable : Option (List ℕ) → Type 0
HasTable deck = HasParts deck (λ cut. IsTable cut.table)

-- so many parts may be asked for: at least one, and no more than files may be held open
abbrev pub MayBeAsked : Option ℕ → Type 0
MayBeAsked None = Unit {0}
MayBeAsked (Some n) = (1 ≤ n) × (n ≤ MOST_PARTS)

-- why so many parts are refused before the deck is read
abbrev pub IsFaultOfNumber : Option ℕ → SplitFault → Type 0
IsFaultOfNumber parts fault.NoParts = parts ≡ Some 0
IsFaultOfNumber parts (fault.TooMany count) = (MOST_PARTS < count) × (parts ≡ Some count)
IsFaultOfNumber parts f = ⊥

-- a folder that may have the parts has nothing in it, as far as that is known
abbrev pub IsEmpty : Option Bool → Type 0
IsEmpty has_any = IfSome has_any (λ any. any ≡ false)

-- why a folder is refused: it has something in it, or could not be looked at
abbrev pub IsFaultOfFolder : Option Bool → SplitFault → Type 0
IsFaultOfFolder has_any fault.NotEmpty = IfSome has_any (λ any. any ≡ true)
IsFaultOfFolder has_any (fault.Folder error) = Unit {0}
IsFaultOfFolder has_any f = ⊥

-- why a deck is not split into so many parts: what the fault says of the deck holds; that a folder has something
-- in it says nothing of it
abbrev pub IsFaultOf : Option (List ℕ) → Option ℕ → SplitFault → Type 0
IsFaultOf deck parts fault.NoParts = parts ≡ Some 0
IsFaultOf deck parts fault.NotEmpty = ⊥
IsFaultOf deck parts (fault.Table f) = IsTableFault MOST_DECK_BYTES deck f
IsFaultOf deck parts (fault.Routes f) = HasParts deck (λ cut. table_of_text cut.table ≡ Err f)
IsFaultOf deck parts (fault.Rows f) =
    HasTable deck × HasParts deck (λ cut. StopsRows (rest_of_row_stream cut.rows) f)
IsFaultOf deck parts (fault.Plan f) =
    (table : List ℕ) × (loads : List Load) × IsCounted deck table loads × IsPlanPartsFault (length table) loads f
IsFaultOf deck parts (fault.TooMany count) =
    (MOST_PARTS < count) × ((parts ≡ Some count) ⊎ ((ranges : List LineRange)
    × IsPlanned deck parts ranges × (length ranges ≡ count)))
IsFaultOf deck parts f = Unit {0}

-- the list of parts stays as it was; only where a name is at fault may it have its own, and then the decks are
-- whole, and have theirs
abbrev pub LeavesList : Option (List ℕ) → Option (List ℕ) → Option ℕ → SplitFault → Decks → Option (List ℕ)
    → Option (List ℕ) → Type 0
LeavesList deck fresh parts (fault.Folder error) decks old new =
    Keeps old new ⊎ ((list : List ℕ) × IsSplit deck parts fresh decks list × Appends old new list)
LeavesList deck fresh parts f decks old new = Keeps old new

-- what is made of a deck, and what becomes of the list of its parts
abbrev pub Makes : Option (List ℕ) → Option (List ℕ) → Option ℕ → Result (Unit {0}) SplitFault
    → Decks → Option (List ℕ) → Option (List ℕ) → Type 0
Makes deck fresh parts (Ok u) decks old new =
    (list : List ℕ) × IsSplit deck parts fresh decks list × Appends old new list
Makes deck fresh parts (Err f) decks old new =
    IsFaultOf deck parts f × LeavesList deck fresh parts f decks old new

-- why a folder does not get the parts of a deck
abbrev pub IsSplitFault : Option (List ℕ) → Option Bool → Option ℕ → SplitFault → Type 0
IsSplitFault deck has_any parts fault.NotEmpty = IfSome has_any (λ any. any ≡ true)
IsSplitFault deck has_any parts f = IsFaultOf deck parts f

-- what is returned for a deck, and what became of the list of its parts: they are made only where so many may be
-- asked for, and into a folder that has nothing in it
abbrev pub Delivers : Option (List ℕ) → Option Bool → Option (List ℕ) → Option ℕ → Result (Unit {0}) SplitFault
    → Decks → Option (List ℕ) → Option (List ℕ) → Type 0
Delivers deck has_any fresh parts (Ok u) decks old new =
    MayBeAsked parts × IsEmpty has_any × Makes deck fresh parts (Ok u) decks old new
Delivers deck has_any fresh parts (Err f) decks old new =
    IsSplitFault deck has_any parts f × LeavesList deck fresh parts f decks old new
