pub mod Points
pub mod Joins
pub mod Rows
pub mod Fits
