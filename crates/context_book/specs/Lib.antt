pub mod Shards
pub mod Books
pub mod Calls
pub mod Places
pub mod Leavings
