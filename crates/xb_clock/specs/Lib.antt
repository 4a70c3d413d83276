pub mod Clocks
pub mod Since
pub mod Objects
