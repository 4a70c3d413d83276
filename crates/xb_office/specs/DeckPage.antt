-- What a deck says: its page, or its first fault.
use Rattle.std.specs.Prelude.{ℕ, ◌≡◌, ◌+◌, List, Option, IfSome, IsOk, Result, Ok, Err}
use Rattle.std.specs.Io.KnownBytes.{Appends, IsAtEnd, Keeps}
use Rattle.xb_model.specs.Tapes.{tapes_of}
use Rattle.xb_model.specs.Page.{page_text}
use Rattle.xb_model.specs.Rows.{LoopRow}
use Rattle.xb_routes.specs.Table.{Table}
use Rattle.xb_text.specs.Reading.{TakesUpTo}
use Rattle.xb_text.specs.Writing.{AppendsBeginning}
use Rattle.xb_deck.specs.Contents.{Contents, contents_of}
use Rattle.xb_deck.specs.declared.deck.TheConstants.{MOST_DECK_BYTES}
use Rattle.xb_deck.specs.declared.fault.DeckFault.{DeckFault}
use Rattle.xb_office.specs.declared.fault.OfficeFault.{OfficeFault}
use Rattle.xb_office.specs.declared.fault.OfficeFault.TheVariants as fault
use Rattle.xb_office.specs.Faults.{of_deck}

-- the page of a table and of rows
unfoldable pub page_of : Table → List LoopRow → List ℕ
page_of table rows = page_text (tapes_of table.plan table.limits table.routes rows)

-- the page of what a deck has in it, or its fault
abbrev pub page_of_contents : Result Contents DeckFault → Result (List ℕ) OfficeFault
page_of_contents (Ok contents) = Ok (page_of contents.table contents.rows)
page_of_contents (Err f) = Err (of_deck f)

-- the page of a deck, or its first fault
abbrev pub says : List ℕ → Result (List ℕ) OfficeFault
says deck = page_of_contents (contents_of deck)

-- a read that failed, out of memory, a post that could not be started for a deck that has a page, or what
-- a deck says
abbrev pub IsFaultOfDeck : Result (List ℕ) OfficeFault → OfficeFault → Type 0
IsFaultOfDeck said fault.Read = Unit {0}
IsFaultOfDeck said fault.NoMemory = Unit {0}
IsFaultOfDeck said (fault.Bank post) = IsOk said
IsFaultOfDeck said f = said ≡ Err f

-- the writer got the page, and nothing else
abbrev pub GetsPage : Result (List ℕ) OfficeFault → Option (List ℕ) → Option (List ℕ) → Type 0
GetsPage said old new = (page : List ℕ) × (said ≡ Ok page) × Appends old new page

-- the writer got the beginning of the page
abbrev pub GetsBeginning : Result (List ℕ) OfficeFault → Option (List ℕ) → Option (List ℕ) → Type 0
GetsBeginning said old new = (page : List ℕ) × (said ≡ Ok page) × AppendsBeginning old new page

-- what is returned for a deck, and what the writer got of it: the page on Ok, its beginning where a
-- write failed, and nothing on any other fault; a fault of the deck is what the deck says, and where a
-- post could not be started the deck has no fault
abbrev pub Delivers :
    Option (List ℕ) → Result (Unit {0}) OfficeFault → Option (List ℕ) → Option (List ℕ) → Type 0
Delivers deck (Ok u) old new = IfSome deck (λ bytes. GetsPage (says bytes) old new)
Delivers deck (Err fault.Write) old new = IfSome deck (λ bytes. GetsBeginning (says bytes) old new)
Delivers deck (Err fault.Read) old new = Keeps old new
Delivers deck (Err fault.NoMemory) old new = Keeps old new
Delivers deck (Err (fault.Bank post)) old new = Keeps old new × IfSome deck (λ bytes. IsOk (says bytes))
Delivers deck (Err f) old new = Keeps old new × IfSome deck (λ bytes. says bytes ≡ Err f)

-- the reader was read to its end: not where reading failed, or the deck was too long, or memory ran out
abbrev pub IsReadToEnd : Result (Unit {0}) OfficeFault → Option (List ℕ) → Type 0
IsReadToEnd (Err fault.Read) left = Unit {0}
IsReadToEnd (Err fault.DeckTooLong) left = Unit {0}
IsReadToEnd (Err fault.NoMemory) left = Unit {0}
IsReadToEnd result left = IsAtEnd left

-- where the reader stands: at its end, as above, and never past the first byte that is too many
abbrev pub Reads : Result (Unit {0}) OfficeFault → Option (List ℕ) → Option (List ℕ) → Type 0
Reads result old new = IsReadToEnd result new × TakesUpTo (MOST_DECK_BYTES + 1) old new
