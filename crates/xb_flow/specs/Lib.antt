pub mod FaultTexts
pub mod Flows
pub mod Pauses
pub mod Rings
