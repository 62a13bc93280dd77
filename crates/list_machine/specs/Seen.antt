-- How the code is seen: what its lists, its candidates and its sets stand for.
pub mod Stores
pub mod Ran
pub mod Lasts
pub mod Standing
pub mod Paging
