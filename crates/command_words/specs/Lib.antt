pub mod Table
pub mod Words
pub mod Commands
pub mod Views
pub mod Options
pub mod Plain
pub mod Ranges
