pub mod Scaled
pub mod Portions
