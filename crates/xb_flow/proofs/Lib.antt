pub mod Flows
pub mod Prefixes
pub mod Rings
pub mod Sames
