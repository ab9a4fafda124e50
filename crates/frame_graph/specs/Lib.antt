pub mod Inductions
pub mod Leaves
pub mod Decoded
pub mod Maps
pub mod Owed
pub mod Cells
pub mod Frames
pub mod Laws
