pub mod Starts
pub mod Ties
pub mod Again
pub mod Runs
pub mod Outputs
