pub mod Control
pub mod Curve
pub mod Points
pub mod Course
pub mod Registers
pub mod Increment
pub mod Shown
pub mod Stands
