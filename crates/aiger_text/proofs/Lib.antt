pub mod Bodies
pub mod Again
