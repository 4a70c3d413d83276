pub mod Feeds
pub mod Fillings
pub mod Slices
pub mod TapeStations
