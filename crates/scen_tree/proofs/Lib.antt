pub mod SumLemmas
pub mod ChildLemmas
