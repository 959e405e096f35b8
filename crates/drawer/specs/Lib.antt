pub mod Accepted
pub mod Tally
