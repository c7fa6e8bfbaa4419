pub mod Paddings
pub mod OneAnswer
