pub mod Held
pub mod Tells
pub mod Laws
