pub mod BaseLaws
pub mod LoopLaws
