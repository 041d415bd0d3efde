pub mod CauseLemmas
pub mod FetchLemmas
