pub mod Cutting
pub mod Lits
pub mod Pieces
