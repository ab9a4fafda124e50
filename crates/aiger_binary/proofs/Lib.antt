pub mod Loops
pub mod Items
pub mod Takes
pub mod Fresh
pub mod Bodies
pub mod Again
