pub mod FlowImages
pub mod Stations
