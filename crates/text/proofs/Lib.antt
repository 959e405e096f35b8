-- Laws of text that is put together, for the crates that cite them.
pub mod Decimal
pub mod Numeral
pub mod Pieces
