pub mod NextValues
pub mod UsedPlaces
pub mod Answering
pub mod Bits
pub mod Listing
pub mod Passing
