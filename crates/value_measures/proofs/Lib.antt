pub mod ReportLemmas
pub mod Worth
