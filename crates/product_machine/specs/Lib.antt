pub mod Cells
pub mod Eval
pub mod Faults
pub mod Laws
pub mod Tables
pub mod States
pub mod Signals
pub mod Walk
