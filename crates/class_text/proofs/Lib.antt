pub mod Appending
pub mod Linking
