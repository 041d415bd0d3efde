pub mod Met
pub mod Runs
pub mod Worths
