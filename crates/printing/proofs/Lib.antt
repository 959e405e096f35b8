-- Laws of the printing functions.
pub mod Reach
pub mod Coming
pub mod Answered
mod Counted
