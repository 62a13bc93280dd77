pub mod Rising
pub mod Edits
pub mod Parting
pub mod Small
