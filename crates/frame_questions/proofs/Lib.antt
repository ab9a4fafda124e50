pub mod Finding
pub mod Assumptions
