pub mod Found
pub mod Assuming
