pub mod Digits
pub mod Placed
pub mod Sizes
pub mod Splits
pub mod Choices
pub mod Again
