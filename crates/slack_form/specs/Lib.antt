pub mod Limits
pub mod Standard
pub mod Certificates
pub mod Laws
