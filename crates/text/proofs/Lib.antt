pub mod Table
pub mod Classes
pub mod Scans
pub mod Names
pub mod OneAnswer
