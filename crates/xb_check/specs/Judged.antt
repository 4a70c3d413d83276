-- What a text has in it, or why it is refused.
use Rattle.std.specs.Prelude.{ℕ, ◌≡◌, List, if◌then◌else◌, Option, Some, None, Result, Ok, Err, IsOk}
use Rattle.xb_deck.specs.Contents.{Contents, contents_of}
use Rattle.xb_deck.specs.declared.fault.DeckFault.{DeckFault}
use Rattle.xb_deck.specs.declared.fault.DeckFault.TheVariants as fault
use Rattle.xb_routes.specs.declared.fault.RouteFault.{RouteFault}
use Rattle.xb_routes.specs.Table.{Table}
use Rattle.xb_routes.specs.Text.{table_of_text}
use Rattle.xb_check.specs.Alone.{is_table}

-- a route table alone is taken, or it is refused by its fault
abbrev pub taken_alone : Result Table RouteFault → Result (Option Contents) DeckFault
taken_alone (Ok table) = Ok None
taken_alone (Err f) = Err (fault.Routes f)

-- of a text that no line cuts: it is a route table, or a deck that lacks the line
abbrev pub judged_alone : List ℕ → Result (Option Contents) DeckFault
judged_alone text = if is_table text then taken_alone (table_of_text text) else Err fault.NoCut

abbrev pub judged_as : List ℕ → Result Contents DeckFault → Result (Option Contents) DeckFault
judged_as text (Ok contents) = Ok (Some contents)
judged_as text (Err fault.NoCut) = judged_alone text
judged_as text (Err f) = Err f

-- what a deck has in it, none of a route table alone, or the first fault, by which `mfbank` refuses the deck
abbrev pub judged : List ℕ → Result (Option Contents) DeckFault
judged text = judged_as text (contents_of text)

-- memory ran out, or it is the fault that is said of a text
abbrev pub IsFaultSaid : Result (Option Contents) DeckFault → DeckFault → Type 0
IsFaultSaid said fault.NoMemory = Unit {0}
IsFaultSaid said f = said ≡ Err f

-- a text is taken, or it is refused by this fault, its first
abbrev pub IsVerdict : List ℕ → Option DeckFault → Type 0
IsVerdict text None = IsOk (judged text)
IsVerdict text (Some f) = judged text ≡ Err f
