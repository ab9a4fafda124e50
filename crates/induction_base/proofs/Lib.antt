pub mod Asking
pub mod Least
pub mod Spelling
pub mod Fixing
pub mod Sites
