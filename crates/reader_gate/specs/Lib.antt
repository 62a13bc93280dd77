pub mod Ends
pub mod Holds
pub mod Readers
pub mod Steps
