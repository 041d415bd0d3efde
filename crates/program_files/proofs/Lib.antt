pub mod RefusedLemmas
pub mod CaseLemmas
pub mod TreeLemmas
pub mod EditedLemmas
pub mod MeaningLemmas
