pub mod FirstBad
pub mod Marks
pub mod Reached
