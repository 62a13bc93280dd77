pub mod Shards
pub mod Indexes
pub mod Contexts
pub mod Plans
pub mod Steps
pub mod Stands
