pub mod Points
pub mod Costs
pub mod Offers
pub mod Bounds
pub mod Grounds
