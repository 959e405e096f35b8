-- Laws of the engine's definitions that belong to no one function.
pub mod Fitting
pub mod Moved
pub mod Each
pub mod Answers
pub mod Accepted
pub mod Begun
pub mod Demand1
pub mod Order
pub mod Said
pub mod Ends
pub mod Cases
