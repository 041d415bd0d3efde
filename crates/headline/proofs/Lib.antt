pub mod SoLemmas
pub mod RunLemmas
