pub mod CheckedLaws
pub mod Answers
pub mod OneAnswer
