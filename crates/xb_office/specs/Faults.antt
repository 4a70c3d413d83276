-- What an office returns for the fault of a deck.
use Rattle.xb_deck.specs.declared.fault.DeckFault.{DeckFault}
use Rattle.xb_deck.specs.declared.fault.DeckFault.TheVariants as deck_fault
use Rattle.xb_office.specs.declared.fault.OfficeFault.{OfficeFault}
use Rattle.xb_office.specs.declared.fault.OfficeFault.TheVariants as fault

abbrev pub of_deck : DeckFault → OfficeFault
of_deck deck_fault.Read = fault.Read
of_deck deck_fault.TooLong = fault.DeckTooLong
of_deck deck_fault.NoCut = fault.NoCut
of_deck (deck_fault.Routes f) = fault.Routes f
of_deck (deck_fault.Rows f) = fault.Rows f
of_deck deck_fault.NoMemory = fault.NoMemory
