pub mod Renumbering
pub mod Marking
pub mod Ranks
pub mod Kept
