pub mod Ends
pub mod Keeps
pub mod Totals
