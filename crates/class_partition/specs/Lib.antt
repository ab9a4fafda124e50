pub mod Classes
pub mod Laws
pub mod Rows
pub mod Steps
pub mod WordSteps
pub mod Words
