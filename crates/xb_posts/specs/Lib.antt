pub mod Feeds
pub mod Fillings
pub mod TapeStations
