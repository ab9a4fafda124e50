pub mod Asked
pub mod App
pub mod Plain
pub mod Meant
