pub mod Shares
pub mod Ranks
