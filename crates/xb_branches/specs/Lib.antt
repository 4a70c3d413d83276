pub mod DealSteps
pub mod Deals
pub mod Dealt
pub mod GatherSteps
pub mod Gathers
pub mod Merged
