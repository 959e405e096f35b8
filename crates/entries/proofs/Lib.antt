-- Laws of entries, lists and lengths, for the crates that cite them.
pub mod Numbers
pub mod Length
pub mod Along
