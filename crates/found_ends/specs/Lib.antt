pub mod Lasts
pub mod Ends
pub mod Costs
pub mod Settled
pub mod Claims
