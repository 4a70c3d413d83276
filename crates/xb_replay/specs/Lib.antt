pub mod Looks
pub mod Turns
pub mod World
