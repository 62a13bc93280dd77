pub mod Scripts
pub mod Items
pub mod Talk
pub mod Led
pub mod Moments
pub mod Headline
pub mod Exchanges
pub mod Whole
