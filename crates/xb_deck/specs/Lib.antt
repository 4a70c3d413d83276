pub mod Constants
pub mod Deck
pub mod FaultTexts
pub mod MadeDecks
pub mod Tables
pub mod WorkedDecks
pub mod Contents
pub mod Faults
