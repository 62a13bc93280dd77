pub mod Each
pub mod Ruled
pub mod Fitting
pub mod Lookups
pub mod Widening
pub mod Orders
pub mod Within
pub mod Misses
