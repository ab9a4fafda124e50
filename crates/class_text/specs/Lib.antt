pub mod ClassLines
pub mod Links
