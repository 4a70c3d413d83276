pub mod Keys
pub mod Table
pub mod Spots
pub mod Walks
