pub mod Depths
pub mod Concluding
pub mod OneAnswer
pub mod SameLines
pub mod Tallied
pub mod Verdicts
pub mod Unfailing
