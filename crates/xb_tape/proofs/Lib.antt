pub mod FirstEntry
pub mod LineLists
pub mod MarksInOrder
pub mod PageEntries
pub mod PageFormats
pub mod PageLines
pub mod PageMarks
