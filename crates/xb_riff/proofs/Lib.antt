pub mod Chunks
pub mod FloatLemmas
pub mod HeadLemmas
pub mod NearestCodes
pub mod SignedCodes
