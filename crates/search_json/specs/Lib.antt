pub mod Pits
pub mod Values
pub mod Queries
pub mod Sorts
pub mod Slices
pub mod Searches
