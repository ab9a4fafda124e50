pub mod Names
pub mod ClassLines
pub mod Parts
pub mod Certificate
pub mod Laws
