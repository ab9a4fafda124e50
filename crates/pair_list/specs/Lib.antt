pub mod KindNames
pub mod Lists
pub mod Readings
