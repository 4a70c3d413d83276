pub mod Words
pub mod Swings
pub mod WorkedWords
