pub mod Viewed
pub mod Journals
pub mod CommandWords
pub mod AtMoment
pub mod Grown
pub mod Alike
pub mod Inputs
