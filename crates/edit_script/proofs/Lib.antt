pub mod Long
pub mod Leading
pub mod TableLemmas
pub mod Fields
pub mod Counts
pub mod Copies
pub mod StepLemmas
