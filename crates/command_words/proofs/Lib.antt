pub mod WordLemmas
pub mod PlainLemmas
pub mod ReaderLemmas
mod RangeLemmas
