pub mod Base
pub mod Least
pub mod Spelling
pub mod LeastRun
pub mod Fixing
pub mod Search
