pub mod Cells
pub mod Words
pub mod ReportTexts
pub mod Marked
pub mod Rows
pub mod Pages
