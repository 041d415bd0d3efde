pub mod Walks
pub mod Tallies
pub mod DatumView
pub mod Checks
pub mod Unreduced
