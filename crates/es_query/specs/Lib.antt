pub mod Values
pub mod Clauses
pub mod Matches
pub mod Fits
pub mod Limits
pub mod Excluded
