pub mod Single
pub mod Gathered
pub mod Laws
