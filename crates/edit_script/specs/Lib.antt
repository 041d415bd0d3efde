pub mod Numbers
pub mod Commands
pub mod Asked
pub mod Tables
pub mod Script
pub mod Allowed
pub mod Drafts
pub mod Solves
