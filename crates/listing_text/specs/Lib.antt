pub mod Lines
pub mod Listing
pub mod Pieces
pub mod Printed
