pub mod FrameLemmas
pub mod TreeReads
pub mod BookData
pub mod DatumLemmas
