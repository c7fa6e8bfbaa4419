pub mod Signs
pub mod FixedTypes
pub mod Ways
pub mod Handed
pub mod Exact
pub mod OneAnswer
