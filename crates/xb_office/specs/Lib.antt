pub mod DeckPage
pub mod FaultTexts
pub mod Faults
pub mod MadeDecks
pub mod Options
pub mod Program
pub mod Usage
