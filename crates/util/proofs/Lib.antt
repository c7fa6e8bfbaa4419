pub mod Windows
pub mod Pads
pub mod OneAnswer
