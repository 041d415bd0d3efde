pub mod Sizes
pub mod Operations
pub mod FlatText
pub mod Flat
