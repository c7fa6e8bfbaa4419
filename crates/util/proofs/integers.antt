pub mod Loads
pub mod Integers
pub mod OneAnswer
