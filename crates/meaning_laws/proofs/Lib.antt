pub mod Times
pub mod Entries
pub mod Cases
pub mod Programs
pub mod Counts
pub mod Limits
pub mod Laws
