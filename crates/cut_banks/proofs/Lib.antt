pub mod Nodes
pub mod Places
pub mod ReadPools
pub mod Fresh
pub mod Fitting
pub mod Sweeps
