pub mod Tallies
pub mod Seats
pub mod Desks
