pub mod Every
pub mod Gates
pub mod Stays
pub mod Choice
pub mod Order
pub mod Tabled
pub mod Cases
