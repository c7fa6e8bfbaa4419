pub mod HeaderLaws
pub mod OneAnswer
pub mod Demands
