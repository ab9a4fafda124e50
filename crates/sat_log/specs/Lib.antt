pub mod Derivations
pub mod Laws
pub mod Lines
pub mod Words
pub mod Texts
pub mod Parts
