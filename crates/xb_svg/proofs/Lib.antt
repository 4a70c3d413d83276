pub mod Pushed
pub mod Drawn
