pub mod Pools
pub mod Banks
