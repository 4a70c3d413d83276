pub mod Routes
pub mod WithoutSend
