pub mod HeadLaws
pub mod OneAnswer
