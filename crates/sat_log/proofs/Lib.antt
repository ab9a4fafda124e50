pub mod Lists
pub mod Rows
pub mod Soundness
pub mod Again
pub mod Written
