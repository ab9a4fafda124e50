pub mod Refined
pub mod Reports
pub mod Workers
