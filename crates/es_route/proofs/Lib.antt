pub mod Walks
pub mod Objects
pub mod Queries
pub mod Parts
pub mod Asks
pub mod Ranks
pub mod Shards
pub mod Shows
