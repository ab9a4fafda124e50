pub mod Arena
pub mod Clauses
pub mod Codes
pub mod Joined
pub mod Laws
