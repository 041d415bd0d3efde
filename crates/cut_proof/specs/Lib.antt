pub mod View
pub mod Falls
pub mod Answers
pub mod Faults
pub mod Conditions
pub mod Repairing
pub mod Laws
