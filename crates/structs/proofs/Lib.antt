pub mod Writes
pub mod OneAnswer
