pub mod FaultTexts
pub mod Groups
pub mod Tables
pub mod Files
pub mod Worked
