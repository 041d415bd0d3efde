pub mod Ends
pub mod Points
