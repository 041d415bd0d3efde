pub mod LowerEnds
pub mod Knowing
pub mod Fixing
