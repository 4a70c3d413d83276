pub mod HeardSoFar
pub mod FewSignals
pub mod Refusals
