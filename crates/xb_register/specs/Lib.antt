pub mod Stored
pub mod Phases
pub mod Plain
pub mod Machine
pub mod Laws
