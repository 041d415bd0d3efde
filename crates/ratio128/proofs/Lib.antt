pub mod WideLemmas
pub mod WideRuns
pub mod ShortStep
pub mod RatioLemmas
pub mod OrderLemmas
