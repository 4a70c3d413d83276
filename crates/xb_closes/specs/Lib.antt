pub mod Closed
pub mod Fed
pub mod Left
pub mod LineUses
