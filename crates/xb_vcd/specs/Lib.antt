pub mod VcdWords
pub mod VcdChanges
pub mod VcdTexts
pub mod VcdEvents
pub mod WorkedVcd
pub mod WrittenVcd
pub mod MissingWires
