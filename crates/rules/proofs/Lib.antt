-- Laws of the rules, for the crates that cite them.
pub mod Refusals
pub mod Numbered
pub mod Laws
pub mod Reaches
pub mod Marks
pub mod Order
pub mod Cases
pub mod Every
pub mod Decided
