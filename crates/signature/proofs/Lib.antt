-- Laws that the proofs of several functions, and callers, cite.
pub mod CodeLaws
pub mod Nesting
pub mod MarkLaws
pub mod RunLaws
pub mod EndLaws
pub mod OneAnswer
