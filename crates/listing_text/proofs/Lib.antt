-- Laws of the listing's text.
pub mod Drawable
pub mod Drawn
pub mod Joins
pub mod Fits
pub mod Buffers
pub mod Places
pub mod Whole
pub mod Refused
pub mod Numbered
pub mod Example
