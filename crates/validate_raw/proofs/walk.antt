pub mod WalkLaws
pub mod CycleLaws
