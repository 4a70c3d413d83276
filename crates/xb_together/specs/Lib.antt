pub mod FarEnd
pub mod Received
pub mod Hearing
pub mod SplitDecks
pub mod WrittenDecks
