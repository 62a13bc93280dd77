pub mod Ids
pub mod Pieces
pub mod Documents
pub mod Hits
pub mod Faults
pub mod Bulk
pub mod Frame
pub mod Replies
