pub mod Loads
pub mod Answers
pub mod Endings
