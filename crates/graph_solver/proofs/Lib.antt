pub mod Clauses
pub mod Equal
