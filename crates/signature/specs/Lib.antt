pub mod Codes
pub mod Marks
pub mod Ends
