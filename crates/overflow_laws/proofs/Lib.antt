pub mod Paths
pub mod Cuts
pub mod Forms
pub mod Points
pub mod Nodes
pub mod Sums
pub mod Ends
pub mod Joins
