pub mod Codings
pub mod FaultTexts
pub mod Floats
pub mod Heads
pub mod MuLawBytes
