pub mod Path
pub mod Segment
pub mod Entries
pub mod Answer
pub mod Lawful
pub mod Joined
pub mod Steps
pub mod Listed
