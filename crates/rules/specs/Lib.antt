pub mod Refusals
pub mod Numbered
pub mod Rules
