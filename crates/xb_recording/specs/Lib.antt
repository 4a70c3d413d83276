pub mod Says
pub mod Places
pub mod Formats
pub mod Beginnings
pub mod Constants
pub mod Written
pub mod WrittenForms
