pub mod Meant
pub mod Refused
pub mod Edited
pub mod Views
pub mod Laws
