pub mod Flat
pub mod Bytes
