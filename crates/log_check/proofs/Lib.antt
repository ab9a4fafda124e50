pub mod Core
pub mod Following
pub mod Hints
pub mod Marking
pub mod Scanning
