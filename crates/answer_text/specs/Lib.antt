pub mod Texts
pub mod Values
pub mod Headers
