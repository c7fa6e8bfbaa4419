pub mod OpenLaws
pub mod ArrayLaws
