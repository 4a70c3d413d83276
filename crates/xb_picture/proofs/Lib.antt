pub mod Said
pub mod Window
