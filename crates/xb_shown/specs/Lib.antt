pub mod Headings
pub mod Keyings
pub mod Pictures
pub mod Sections
