pub mod LastWord
pub mod HeaderRead
pub mod Pieces
