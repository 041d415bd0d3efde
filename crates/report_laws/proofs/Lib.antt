mod WordLemmas
mod NumberLemmas
mod FindingLemmas
mod ListLemmas
mod LineLemmas
mod TableLemmas
mod ReportLemmas
