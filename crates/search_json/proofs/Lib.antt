pub mod Depths
pub mod Lists
pub mod Only
pub mod Shows
