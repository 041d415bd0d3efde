pub mod Page
pub mod Lines
pub mod Texts
pub mod Views
