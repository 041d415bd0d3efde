pub mod TermLemmas
pub mod StepLemmas
pub mod KeywordLemmas
pub mod PlaceLemmas
pub mod WholeLemmas
pub mod ReadLemmas
pub mod FallingLemmas
