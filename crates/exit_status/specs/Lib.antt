pub mod Lines
pub mod Findings
