pub mod Evaluating
pub mod OneLevel
pub mod Keeping
pub mod Definitions
pub mod LeastUndefined
pub mod Walks
pub mod Sorting
pub mod Finishing
