pub mod Printable
pub mod Law
