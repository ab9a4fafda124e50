pub mod Stub
pub mod Reduced
pub mod Table
