pub mod EntryLemmas
pub mod HandLemmas
pub mod HandsLemmas
