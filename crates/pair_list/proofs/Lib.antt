pub mod Cuts
pub mod Texts
pub mod Faults
pub mod Found
