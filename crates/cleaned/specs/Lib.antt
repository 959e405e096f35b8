pub mod Moves
pub mod Cleaned
pub mod Runs
pub mod Along
pub mod Cleaner
