pub mod Class
pub mod Verdict
pub mod Ends
