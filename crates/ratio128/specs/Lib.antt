pub mod Ratio
pub mod Wide
