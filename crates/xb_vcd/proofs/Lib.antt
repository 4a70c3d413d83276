pub mod WordLemmas
pub mod VcdLemmas
pub mod EventLemmas
pub mod WrittenVcd
pub mod MissingWires
