-- Laws of moves, of cleaned lists and of the cleaner.
pub mod Moves
pub mod Neighbours
pub mod Twice
pub mod Runs
pub mod Front
pub mod Kept
pub mod Fate
pub mod Handed
