pub mod Versions
pub mod WideSplits
pub mod Published
pub mod Proofs
pub mod Opening
pub mod Known
pub mod Laws
pub mod Logs
