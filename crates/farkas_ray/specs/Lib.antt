pub mod Sums
pub mod Halts
