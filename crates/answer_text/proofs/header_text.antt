pub mod HeaderLaws
pub mod OneAnswer
