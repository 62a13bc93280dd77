pub mod Bytes
pub mod Fields
pub mod Forms
pub mod Numerals
