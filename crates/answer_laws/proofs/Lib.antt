pub mod Offers
pub mod Points
pub mod Costs
pub mod PoolCosts
pub mod Bounds
pub mod Grounds
