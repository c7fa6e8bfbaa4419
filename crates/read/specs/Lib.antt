pub mod Coded
pub mod Bits
