pub mod DerivedLaws
pub mod ContentLemmas
