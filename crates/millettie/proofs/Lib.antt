pub mod Demands
pub mod OneAnswer
pub mod Exported
