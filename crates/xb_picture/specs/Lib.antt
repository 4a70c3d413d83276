pub mod Labels
pub mod Said
pub mod Courses
pub mod Digits
pub mod Attempts
pub mod Pictures
pub mod Drawing
