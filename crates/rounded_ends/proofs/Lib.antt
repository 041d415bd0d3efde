pub mod RunLemmas
pub mod PlaceLemmas
pub mod EndLemmas
