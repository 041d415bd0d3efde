pub mod Gives
pub mod Reached
pub mod Told
pub mod Drove
pub mod Checks
pub mod Dense
