pub mod Nodes
pub mod ConeMembers
pub mod Valuations
pub mod Pure
pub mod Learning
pub mod Questions
pub mod Parity
