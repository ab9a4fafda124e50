pub mod Laws
pub mod Looking
pub mod Rank
pub mod Trail
