pub mod Marking
pub mod Refuting
pub mod Walking
pub mod Deriving
pub mod Concluding
pub mod Signing
