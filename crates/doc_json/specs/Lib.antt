pub mod Json
pub mod Documents
pub mod Indexes
pub mod Bulks
