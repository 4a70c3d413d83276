pub mod JoinedRuns
pub mod RemainingSignals
pub mod Steps
pub mod Hearing
pub mod PlainStates
