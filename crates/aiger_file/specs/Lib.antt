pub mod Files
pub mod Readings
pub mod Grammar
pub mod Written
