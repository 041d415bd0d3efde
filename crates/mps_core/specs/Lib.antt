pub mod View
pub mod Keywords
pub mod Whole
pub mod Falling
pub mod Pairs
