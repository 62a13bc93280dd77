pub mod Solo
pub mod Running
pub mod Repeats
