pub mod Signs
pub mod Counting
pub mod Partition
pub mod ClassCount
pub mod SameClasses
pub mod Splitting
pub mod Verdicts
pub mod Places
pub mod Unsplit
pub mod Kept
pub mod WordSplitting
pub mod WordRows
pub mod WordPlaces
pub mod Finer
pub mod WordKept
mod Tallying
