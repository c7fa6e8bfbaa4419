pub mod Contents
pub mod Back
pub mod OneAnswer
