pub mod Names
pub mod Members
pub mod Fitted
pub mod FitKinds
pub mod Lookups
pub mod Times
