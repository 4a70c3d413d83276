pub mod Silences
pub mod Times
pub mod Spaced
pub mod HeardCalls
pub mod Rows
pub mod Settlements
pub mod Winks
pub mod Promises
