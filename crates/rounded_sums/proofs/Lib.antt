pub mod SplitLemmas
pub mod SideLemmas
