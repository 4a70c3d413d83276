pub mod FaultTexts
pub mod Sounded
pub mod Laws
pub mod Starts
pub mod Leads
pub mod StartLaws
