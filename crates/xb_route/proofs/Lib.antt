pub mod Completing
pub mod NumberLines
pub mod KeyValues
pub mod Keyed
pub mod Sent
pub mod Asked
