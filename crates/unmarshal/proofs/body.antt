pub mod BodyLaws
pub mod TextLaws
pub mod AfterLaws
pub mod NextLaws
