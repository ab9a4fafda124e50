pub mod Names
pub mod Lines
pub mod Bits
pub mod Texts
pub mod Replay
