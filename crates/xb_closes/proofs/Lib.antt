pub mod Closings
pub mod FedRows
pub mod Filters
pub mod Lefts
pub mod RowsUpToClose
pub mod Uses
