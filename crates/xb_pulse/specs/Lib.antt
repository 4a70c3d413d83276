pub mod Counters
pub mod Plain
pub mod Laws
pub mod Machine
pub mod Outputs
