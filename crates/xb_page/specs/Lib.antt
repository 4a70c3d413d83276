pub mod Entries
pub mod FaultTexts
pub mod Places
pub mod ReadPages
pub mod Sheets
pub mod PageLines
pub mod ReadBack
pub mod LineEnds
