pub mod ElementLaws
pub mod ItemLaws
pub mod OneAnswer
