pub mod Laws
pub mod DecimalLaws
pub mod PutLaws
pub mod OneAnswer
