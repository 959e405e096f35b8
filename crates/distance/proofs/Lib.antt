-- Demand 3 from the invariant of each coordinate, and what paths cite.
pub mod Kept
pub mod Calls
pub mod Back
pub mod Choice
pub mod Touching
pub mod Demand3
pub mod Sixteenth
