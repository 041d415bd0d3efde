pub mod Edited
pub mod Stands
pub mod Laws
pub mod Scripted
pub mod Batches
