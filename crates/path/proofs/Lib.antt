-- Laws of paths and their lists.
pub mod Points
pub mod Accepted
pub mod Refusals
pub mod Demand1
pub mod Answered
pub mod Segments
pub mod Turns
pub mod Joined
pub mod Walk
pub mod Spans
pub mod Goes
pub mod Steps
pub mod Near
pub mod Listed
