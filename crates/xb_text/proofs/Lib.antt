pub mod Beginnings
mod CutPieces
pub mod PlacedPieces
