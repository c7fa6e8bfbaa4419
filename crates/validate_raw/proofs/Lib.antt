pub mod EntryLaws
pub mod Demands
pub mod OneAnswer
