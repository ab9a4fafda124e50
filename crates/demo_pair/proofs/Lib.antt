pub mod Steps
pub mod Made
