-- Laws that no one function owns; every crate above cites them.
pub mod Parts
pub mod Ring
pub mod Order
pub mod Floor
pub mod Size
pub mod Machine
pub mod Tests
pub mod Tables
pub mod Multiples
pub mod Buffers
