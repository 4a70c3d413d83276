pub mod Ended
pub mod ObjectValues
pub mod DrawnDigits
pub mod Unfit
