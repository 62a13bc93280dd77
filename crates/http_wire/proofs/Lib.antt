pub mod Accept
pub mod Ends
pub mod Flow
pub mod Front
pub mod Numbers
pub mod OneHead
