pub mod TimesTold
pub mod PutTexts
pub mod TimeValues
