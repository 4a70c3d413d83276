pub mod Looks
pub mod Escaped
pub mod Elements
pub mod Drawings
