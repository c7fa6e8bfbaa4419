pub mod FirstBytes
pub mod Items
pub mod Head
pub mod Walk
