pub mod Frames
pub mod Counts
pub mod NodeData
pub mod Laws
