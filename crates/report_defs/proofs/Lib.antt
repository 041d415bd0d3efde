pub mod BestLemmas
pub mod ReasonLemmas
