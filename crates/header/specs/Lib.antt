pub mod FixedHeader
pub mod HeaderField
pub mod HeaderFields
