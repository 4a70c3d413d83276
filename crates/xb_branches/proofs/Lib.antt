pub mod Deals
pub mod GatherInputs
pub mod Gathers
pub mod Merged
pub mod MergedImages
pub mod Sames
