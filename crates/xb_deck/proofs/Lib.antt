mod Lines
pub mod MadeDecks
mod TableLines
