pub mod Eval
pub mod Levels
pub mod Given
pub mod Kept
pub mod Walk
pub mod Finish
