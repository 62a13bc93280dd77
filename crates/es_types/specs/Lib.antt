pub mod formers
pub mod Name
pub mod Fail
pub mod Fields
pub mod Fit
pub mod Homes
pub mod Values
pub mod Times
