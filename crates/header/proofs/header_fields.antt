pub mod SeenLaws
pub mod TableLaws
