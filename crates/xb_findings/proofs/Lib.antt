pub mod Tellings
mod TextLines
mod TakenLines
mod SeparatedRecords
mod NearCuts
mod Placing
