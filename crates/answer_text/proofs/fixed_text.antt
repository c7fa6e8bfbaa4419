pub mod Numbers
pub mod OneAnswer
