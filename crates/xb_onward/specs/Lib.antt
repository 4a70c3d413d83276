pub mod Keys
pub mod Outcomes
pub mod Registering
pub mod Sending
pub mod Forgetting
