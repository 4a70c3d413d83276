pub mod Writings
pub mod Texts
pub mod Bounded
pub mod TraceTotals
pub mod TraceLaws
pub mod SoundDials
pub mod Delivered
pub mod Unfit
