pub mod Strings
pub mod OneAnswer
