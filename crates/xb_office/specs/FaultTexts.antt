-- The text of each fault.
use Rattle.std.specs.Prelude.{ℕ, ◌++◌, List, codes}
use Rattle.xb_deck.specs.FaultTexts.{deck_text}
use Rattle.xb_flow.specs.FaultTexts.{post_text}
use Rattle.xb_deck.specs.declared.fault.DeckFault.TheVariants as deck
use Rattle.xb_office.specs.declared.fault.OfficeFault.{OfficeFault}
use Rattle.xb_office.specs.declared.fault.OfficeFault.TheVariants as office

-- of a page that is not written
abbrev pub office_text : OfficeFault → List ℕ
office_text office.Read = deck_text deck.Read
office_text office.DeckTooLong = deck_text deck.TooLong
office_text office.NoCut = deck_text deck.NoCut
office_text (office.Routes fault) = deck_text (deck.Routes fault)
office_text (office.Rows fault) = deck_text (deck.Rows fault)
office_text (office.Bank post) = codes "the post " ++ post_text post ++ codes " could not be started"
office_text office.NoMemory = codes "out of memory"
office_text office.Write = codes "the page could not be written"
