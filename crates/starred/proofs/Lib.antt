-- The worked cases of document 01 that are theorems.
pub mod Cases
