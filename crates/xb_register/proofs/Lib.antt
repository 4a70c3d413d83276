pub mod Patterns
pub mod Outcomes
pub mod Attempts
pub mod AtMost
pub mod PlainStates
