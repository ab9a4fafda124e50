pub mod Lanes
pub mod Frames
pub mod Counting
pub mod Runs
pub mod Words
pub mod Stripes
