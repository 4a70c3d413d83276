pub mod FlowImages
pub mod ImagePrefixes
pub mod Sames
pub mod Stations
