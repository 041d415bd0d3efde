pub mod Tables
pub mod Cases
pub mod Sums
pub mod Work
pub mod Lines
pub mod Meaning
