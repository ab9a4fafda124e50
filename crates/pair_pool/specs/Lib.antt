pub mod Unpaired
pub mod Outcomes
pub mod Claims
pub mod Solutions
