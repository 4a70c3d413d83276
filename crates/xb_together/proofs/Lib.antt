mod FarEnds
mod ReceivedNumbers
pub mod PlannedPages
pub mod SplitPages
pub mod TableLines
pub mod WrittenDecks
