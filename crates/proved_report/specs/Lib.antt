pub mod Open
pub mod Tested
pub mod Rounded
pub mod Reports
pub mod Passing
