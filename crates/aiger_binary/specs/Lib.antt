pub mod Binary
pub mod Grammar
