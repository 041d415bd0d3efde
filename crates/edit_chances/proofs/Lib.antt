pub mod Comes
pub mod Rescaled
pub mod PortionSums
