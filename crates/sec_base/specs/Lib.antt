pub mod Calls
pub mod Faults
pub mod Files
pub mod Held
pub mod MemShelf
pub mod MemSink
pub mod Shelved
