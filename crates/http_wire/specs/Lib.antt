pub mod Heads
pub mod Names
pub mod Parts
pub mod Requests
pub mod Steps
pub mod Stream
