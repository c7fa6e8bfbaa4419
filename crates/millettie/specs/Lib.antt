pub mod Fixed
pub mod Framed
