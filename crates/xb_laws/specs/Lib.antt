pub mod RowDigits
pub mod Timed
pub mod Tandem
pub mod Dialled
pub mod Network
pub mod Worked
pub mod Tuned
pub mod TraceTapes
