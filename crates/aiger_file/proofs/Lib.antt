pub mod OneNetlist
pub mod OneComes
pub mod OneReading
pub mod SpelledFile
pub mod Written
mod InTurn
mod NewNumbers
mod WrittenBinary
