pub mod Answers
pub mod Pieces
pub mod Numbers
pub mod Findings
pub mod Lines
pub mod Reports
pub mod Stated
