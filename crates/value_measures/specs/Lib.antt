pub mod Numbers
pub mod Reports
pub mod Measured
pub mod Text
