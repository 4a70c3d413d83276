pub mod SaidLemmas
pub mod RefusedLemmas
pub mod ToldLemmas
pub mod WrittenTexts
pub mod WrittenForms
pub mod ToldWithin
