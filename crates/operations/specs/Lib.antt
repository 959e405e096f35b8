pub mod Coordinates
pub mod Position
pub mod Refusals
pub mod Lawful
pub mod Choice
pub mod ThreeRules
