pub mod LookupLaws
pub mod OneAnswer
