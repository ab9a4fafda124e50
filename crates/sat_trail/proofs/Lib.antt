pub mod Placing
pub mod Ranks
pub mod Reasons
pub mod Seeing
pub mod Upkeep
pub mod Valuing
