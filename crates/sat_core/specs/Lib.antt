pub mod Derivations
pub mod Analysis
pub mod Solving
pub mod Watching
pub mod Signed
pub mod Answers
pub mod Ready
