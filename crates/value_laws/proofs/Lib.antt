pub mod Knowing
pub mod Fixing
