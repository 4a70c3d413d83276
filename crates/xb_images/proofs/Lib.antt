pub mod Chain
pub mod ClosedAll
pub mod ClosedOnce
pub mod LineTapes
