pub mod Entry
pub mod Loaded
