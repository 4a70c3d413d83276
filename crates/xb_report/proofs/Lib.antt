pub mod Pushed
pub mod Marks
pub mod Joined
