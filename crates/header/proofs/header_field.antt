pub mod CodeLaws
pub mod OneLaws
pub mod KnownLaws
pub mod FieldLaws
