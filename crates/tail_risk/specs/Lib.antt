pub mod TailNames
pub mod TailRow
pub mod Paths
pub mod TailProgram
pub mod TailWalk
pub mod Risk
