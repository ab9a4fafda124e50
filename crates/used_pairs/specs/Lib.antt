pub mod Latches
pub mod Lists
pub mod Logs
